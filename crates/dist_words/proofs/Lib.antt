mod Chain
mod Getters
mod Readings
mod SimpleChain
