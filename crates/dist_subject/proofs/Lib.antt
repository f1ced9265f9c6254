mod Truth
mod Bases
mod Standing
mod Numbers
mod Made
mod PairsOfSpace
