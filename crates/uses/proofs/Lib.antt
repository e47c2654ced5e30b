pub mod Related
pub mod Tree
