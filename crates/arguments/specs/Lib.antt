pub mod Judged
pub mod Raised
