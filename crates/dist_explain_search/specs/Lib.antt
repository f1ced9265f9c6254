pub mod ExplainOrder
pub mod ExplainAnswers
pub mod SearchPrivate
