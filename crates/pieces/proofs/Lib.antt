pub mod StretchFacts
pub mod CutFacts
pub mod NearestFacts
pub mod BodyFacts
pub mod PartFacts
pub mod Putting
