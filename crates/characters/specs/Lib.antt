pub mod Character
