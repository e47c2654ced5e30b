pub mod BufferLaws
pub mod AnswerLaws
mod TurnLaws
