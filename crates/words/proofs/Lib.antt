-- `FieldLaws` has the arithmetic of fields in words, `OnesFacts` the ones of a word from a bit on,
-- `LowestBit` a word without its lowest bit, `CutBit` one without those of another, `SumFacts` the sum of
-- words that change.
pub mod FieldLaws
pub mod OnesFacts
pub mod LowestBit
pub mod HighestBit
pub mod PartBits
pub mod CutBit
pub mod SumFacts
pub mod RangeBits
pub mod SetBitFacts
pub mod SetBitLoops
pub mod SetBitChains
