pub mod AllowedEffects
pub mod Dropping
pub mod PrivilegePlaces
pub mod Changes
