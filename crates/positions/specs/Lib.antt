pub mod Position
pub mod Taken
pub mod Printed
