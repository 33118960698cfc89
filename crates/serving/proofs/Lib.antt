-- `Walk` has the laws of a walk through a piece of input, `Behind` those of steps one behind the other.
pub mod Walk
pub mod Behind
pub mod PieceFacts
pub mod ReplyFacts
pub mod PieceStepFacts
pub mod StreamFacts
