pub mod Numbers
pub mod Expanded
