pub mod FilledFacts
pub mod RunFacts
