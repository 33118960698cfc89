pub mod Fields
pub mod Ones
pub mod Bits
pub mod Sums
pub mod SetBits
