pub mod Records
pub mod Pages
pub mod RecordsFacts
