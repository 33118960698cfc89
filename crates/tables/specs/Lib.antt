pub mod TableLayout
pub mod TableGiving
