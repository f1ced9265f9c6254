pub mod Counting
pub mod Limits
pub mod LinesRead
pub mod QuestionLemmas
pub mod Spaces
