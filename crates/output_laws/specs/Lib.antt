pub mod Outputs
pub mod Holding
pub mod NeverNul
pub mod Printed
pub mod NoNul
