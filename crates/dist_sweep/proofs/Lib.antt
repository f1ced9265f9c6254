mod Later
mod Asked
mod SweepLines
mod Parts
mod SweptFile
mod Started
