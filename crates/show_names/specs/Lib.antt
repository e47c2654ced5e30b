pub mod Line
pub mod Naming
