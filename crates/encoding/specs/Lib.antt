pub mod Format
pub mod Insertions
