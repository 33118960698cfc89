pub mod First
pub mod Cover
pub mod Sweep
pub mod Gaps
