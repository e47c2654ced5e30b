pub mod Having
pub mod Searched
pub mod Hashed
