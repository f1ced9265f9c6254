mod AnswerNotes
mod Begun
mod First
