pub mod Filled
pub mod Listing
pub mod Runs
