pub mod CarriedFacts
pub mod Revoked
pub mod Revoking
