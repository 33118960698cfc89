pub mod Direct
pub mod Among
