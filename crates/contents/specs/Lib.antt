pub mod Fits
pub mod Usual
