-- `CoordinateFacts` has accesses by coordinates, `RightAccesses` where rules lead from them, `NeededFacts`
-- what a question can rest on, `StandingRules` which rules the masks say to stand.
pub mod CoordinateFacts
pub mod RightAccesses
pub mod NeededFacts
pub mod StandingRules
-- What the proofs of the functions use.
pub mod CoordinateTurns
pub mod SideCodes
pub mod MaskWords
pub mod Masking
pub mod Feeding
pub mod Controlling
