pub mod FirstFacts
pub mod CoverFacts
pub mod SweepFacts
pub mod GapFacts
