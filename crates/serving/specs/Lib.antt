pub mod LineTurns
pub mod Replies
pub mod Pieces
pub mod Stream
pub mod PieceSteps
