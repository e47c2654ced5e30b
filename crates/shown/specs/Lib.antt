pub mod Puts
pub mod Shown
