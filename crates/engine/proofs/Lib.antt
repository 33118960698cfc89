-- By what was drawn: `AccessPlaces` has the places of accesses, `StandingPlaces` where rules stand,
-- `TurnReads` what a turn reads, `Sides` what it looks at and gives to. `LinesGiven` has what it means that
-- authorizations are given, `NarrowedBase` the base with what a question needs alone.
pub mod AccessPlaces
pub mod StandingPlaces
pub mod TurnReads
pub mod Sides
pub mod LinesGiven
pub mod NarrowedBase
-- `LeftOut` has authorizations that are passed over or forgotten, `Right` one window of a question,
-- `NothingFound` a walk that has nothing to find.
pub mod LeftOut
pub mod Right
pub mod NothingFound
-- What the proofs of the functions use.
pub mod Evaluating
pub mod Onward
pub mod Passing
pub mod Sectioned
