pub mod Counts
pub mod Digests
pub mod Trace
