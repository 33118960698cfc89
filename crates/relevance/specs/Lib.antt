pub mod Chosen
pub mod Distance
pub mod Ahead
pub mod Filling
pub mod Forgotten
pub mod Needed
