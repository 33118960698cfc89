pub mod Adding
pub mod SheetByRows
