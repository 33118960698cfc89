-- `Placed` has the laws of texts printed one behind the other, `Digits` those of a number's digits, and
-- `Pairs` those of the runs in a list.
pub mod Placed
pub mod Digits
pub mod Pairs
pub mod Lengths
pub mod ShortFacts
pub mod ShortReplies
