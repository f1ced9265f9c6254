mod Found
mod WholeFile
mod Noted
mod Stopped
mod WrittenFile
