pub mod Names
pub mod Naming
pub mod Lookup
pub mod Finding
pub mod Searching
