pub mod IfLaws
pub mod KeyLaws
pub mod LoopLaws
pub mod OverwriteLaws
pub mod ScanLaws
pub mod TabulateLaws
