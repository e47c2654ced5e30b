pub mod Decimals
pub mod Rounds
