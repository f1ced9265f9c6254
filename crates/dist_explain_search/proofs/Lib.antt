pub mod QuestionLemmas
pub mod GoingLemmas
pub mod AskedLemmas
pub mod CoreLemmas
pub mod SettledLemmas
pub mod ExplainedLemmas
pub mod TryLemmas
