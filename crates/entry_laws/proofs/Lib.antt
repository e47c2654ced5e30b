pub mod Round
pub mod Asked
pub mod Demands
pub mod Merge
pub mod MergeDemands
