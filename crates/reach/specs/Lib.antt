pub mod Net
pub mod Reach
