pub mod Added
pub mod AskedFacts
