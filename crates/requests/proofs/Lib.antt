pub mod KindNumbers
pub mod EffectReplies
pub mod EarlyReplies
pub mod RoomFacts
