-- `Formatted` says where the bodies stand in bytes of the format.
pub mod Formatted
