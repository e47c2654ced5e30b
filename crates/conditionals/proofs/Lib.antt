pub mod ScanLaws
pub mod WalkLaws
