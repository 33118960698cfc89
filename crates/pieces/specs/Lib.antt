pub mod Stretches
pub mod Cuts
pub mod Nearest
pub mod Building
pub mod Puts
pub mod CutParts
