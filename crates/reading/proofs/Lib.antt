pub mod FirstField
pub mod WordSearch
pub mod DigitValues
pub mod WholeLines
