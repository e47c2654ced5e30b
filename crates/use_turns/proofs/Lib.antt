pub mod WeightLaws
pub mod FrameLaws
pub mod ReadLaws
pub mod AdvanceLaws
