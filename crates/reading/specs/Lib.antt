pub mod LineFields
pub mod ParsedLines
