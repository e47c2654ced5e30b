pub mod KeepingLaws
pub mod RecordLaws
pub mod WalkLaws
