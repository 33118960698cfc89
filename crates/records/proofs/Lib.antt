-- `Filled` has the laws of a page of rows, `Paged` those of the rows of the table before it.
pub mod Filled
pub mod Paged
