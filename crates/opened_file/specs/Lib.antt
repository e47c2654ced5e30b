pub mod Opened
pub mod Kinds
