pub mod Answers
pub mod AnswerLaws
