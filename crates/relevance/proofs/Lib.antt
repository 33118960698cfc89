-- `PickedFacts` has the authorizations that numbers name, `PickedLoops` loops over them; `Nearness` marks by
-- their distance, and the order in which marks are looked at; `Growing` a window that is being filled;
-- `KeptNumbers` numbers that are kept by a test; `ChoiceFacts` the authorizations that are chosen.
pub mod PickedFacts
pub mod PickedLoops
pub mod Nearness
pub mod Growing
pub mod KeptNumbers
pub mod ChoiceFacts
