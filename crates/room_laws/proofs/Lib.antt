pub mod Values
pub mod Items
pub mod Bounded
