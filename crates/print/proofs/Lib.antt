pub mod DigitLaws
pub mod EmitLaws
pub mod NumeralLaws
