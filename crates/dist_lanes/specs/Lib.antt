pub mod Bits
pub mod BitsPrivate
pub mod Rows
