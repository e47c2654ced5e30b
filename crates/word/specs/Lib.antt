pub mod Word
pub mod Nul
