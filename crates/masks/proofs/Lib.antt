-- `SingleBits` has single bits of words; `SameBits` words with the same; `BitLoops` what a loop over the
-- bits of a mask passes and keeps; `Puts` words of a list with a bit more; `StandingPairs` the rules that
-- stand at places that are needed; `Widths` how many bits fields take; `ClearFields` fields in words that are
-- 0.
pub mod SingleBits
pub mod SameBits
pub mod BitLoops
pub mod Puts
pub mod StandingPairs
pub mod Widths
pub mod ClearFields
