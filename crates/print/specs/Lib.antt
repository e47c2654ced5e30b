pub mod Numeral
pub mod Bounds
pub mod Emit
