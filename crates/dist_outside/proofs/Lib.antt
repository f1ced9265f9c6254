pub mod Growing
pub mod Files
pub mod SoFar
pub mod Newest
pub mod Composing
