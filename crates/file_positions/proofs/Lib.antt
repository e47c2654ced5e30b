pub mod TestLaws
pub mod Positions
