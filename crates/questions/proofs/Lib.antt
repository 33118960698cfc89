-- `OperatorSteps` has the operators from one instant to the next, `OneInstant` what the rules derive at one,
-- `FromMarkToMark` that nothing changes between marks.
pub mod OperatorSteps
pub mod OneInstant
pub mod FromMarkToMark
