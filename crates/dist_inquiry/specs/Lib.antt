pub mod Asking
pub mod AnswerText
pub mod Written
pub mod Inquiring
pub mod StartLaws
