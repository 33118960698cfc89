pub mod Sheet
pub mod SheetExamples
