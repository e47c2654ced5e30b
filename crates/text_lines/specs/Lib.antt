pub mod Usual
