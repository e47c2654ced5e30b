pub mod Listing
pub mod Filled
pub mod Written
