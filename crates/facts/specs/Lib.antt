pub mod Facts
pub mod Sharing
