pub mod Asking
pub mod Drawing
pub mod HandedOn
pub mod Starting
pub mod AskedBases
