pub mod Argument
