pub mod Each
pub mod Keeping
