pub mod NoNul
