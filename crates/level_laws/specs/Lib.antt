pub mod Levels
pub mod LevelsEnd
pub mod Jumps
