pub mod Judged
pub mod Kinds
