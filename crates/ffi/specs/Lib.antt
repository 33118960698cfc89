pub mod ReplyBounds
pub mod PackedReplies
