pub mod RowFilling
pub mod RowFacts
