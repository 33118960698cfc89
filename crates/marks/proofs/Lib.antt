pub mod NextFacts
