pub mod DescribingLaws
pub mod UseLaws
