pub mod Walks
pub mod Own
