pub mod Putting
pub mod UsualLaws
