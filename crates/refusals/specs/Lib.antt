pub mod Asked
pub mod Early
