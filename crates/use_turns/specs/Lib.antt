pub mod Frames
pub mod Weight
pub mod Turned
pub mod Held
