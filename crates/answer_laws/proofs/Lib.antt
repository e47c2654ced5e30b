pub mod Back
pub mod Distinct
pub mod Numbers
