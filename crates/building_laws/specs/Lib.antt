pub mod Over
pub mod Descriptions
pub mod Built
pub mod Compiled
pub mod Values
pub mod Alone
