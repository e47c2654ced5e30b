pub mod Alike
pub mod Fields
pub mod Descriptions
pub mod Editions
