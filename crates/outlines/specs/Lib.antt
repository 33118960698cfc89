pub mod Coordinates
pub mod Outline
pub mod NeededAccesses
pub mod LeftMasks
pub mod Feed
