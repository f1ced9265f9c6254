pub mod Answers
pub mod Ascii
pub mod Front
pub mod Least
pub mod ListLaws
pub mod Pieces
pub mod RowLaws
