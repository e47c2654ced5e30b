pub mod Entries
pub mod Parts
pub mod Lent
pub mod NoNul
