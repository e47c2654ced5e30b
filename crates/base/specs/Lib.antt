pub mod If
pub mod Scan
pub mod Tabulate
pub mod Overwrite
pub mod Loop
pub mod Answer
