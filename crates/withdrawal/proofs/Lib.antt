pub mod StayFacts
pub mod TimeFacts
pub mod TurnFacts
pub mod RoundFacts
pub mod Walks
pub mod Link
