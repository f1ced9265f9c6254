mod Marks
mod Lines
mod Archives
mod Sweeps
mod Exact
