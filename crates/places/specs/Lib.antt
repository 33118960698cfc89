pub mod ReachedNumbers
pub mod Needs
pub mod Regions
