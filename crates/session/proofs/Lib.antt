pub mod InputFacts
