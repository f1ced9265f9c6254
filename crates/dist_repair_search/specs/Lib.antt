pub mod QuestionOrder
pub mod SearchAnswers
pub mod SearchPrivate
