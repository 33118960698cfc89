pub mod Depth
pub mod EngineSteps
