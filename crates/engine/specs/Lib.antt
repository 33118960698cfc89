pub mod Drawn
pub mod Evaluation
pub mod Going
pub mod Posed
