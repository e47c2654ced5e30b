pub mod Digits
pub mod DigitCount
pub mod Forms
pub mod Passes
pub mod Counts
pub mod Steps
pub mod Runs
pub mod Ends
