pub mod Classes
pub mod Right
