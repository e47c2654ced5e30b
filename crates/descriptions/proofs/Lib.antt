pub mod ReadLaws
pub mod TotalLaws
