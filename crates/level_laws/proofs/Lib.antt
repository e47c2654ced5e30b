pub mod OpenLaws
pub mod Ends
pub mod RightLaws
pub mod Jumps
