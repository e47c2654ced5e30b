pub mod GraphLaws
pub mod WalkLaws
