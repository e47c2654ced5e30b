pub mod Answers
pub mod File
