-- `IndexFacts` has the numbers of a region's places, `NumberFacts` those of the pairs that are used,
-- `NeedBits` the bits of what is needed at a pair.
pub mod IndexFacts
pub mod NumberFacts
pub mod NeedBits
