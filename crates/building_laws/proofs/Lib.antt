pub mod Over
pub mod Compiled
pub mod Built
pub mod Values
