pub mod Words
pub mod Derive
pub mod Carried
