-- What rows of steps mean: `MeaningFacts` has the steps of a turn, `Order` the turns of the rules, `Strata`
-- rounds of strata, `WindowAnswers` the words of a window, `Broken` what is kept behind it.
pub mod MeaningFacts
pub mod Order
pub mod Strata
pub mod WindowAnswers
pub mod Broken
-- `TurnRounds` has the laws of turns: masks of rules, and why the rounds of a set of rules end.
pub mod StepRows
pub mod StepBits
pub mod Modes
pub mod TurnRounds
pub mod Parts
