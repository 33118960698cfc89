-- One step through a piece of input, as the program takes it: what is printed, and what is left of the piece,
-- are what `feed` says.
use Rattle.std.specs.Prelude.{◌≡◌, ℕ, ◌≤◌, ◌<◌, true, List, length, take, drop}
use Rattle.model.specs.Soundness.{sound_bytes}
use Rattle.serving.specs.declared.steps.Stepped.{Stepped}
use Rattle.serving.specs.LineTurns.{LineKept}
use Rattle.serving.specs.Stream.{FedUpTo}

-- a step from the place `from` of a piece, on the bytes s, behind the bytes of a line: `left` are those of
-- the line that is not ended yet.
pub record PieceStepped (s pending piece : List ℕ) (from : ℕ) (r : Stepped) (s' line' out : List ℕ) : Type 0
  where
    pub left : List ℕ
    pub kept : LineKept left r.len line'
    pub feeds : FedUpTo s pending (drop from piece) (drop r.at piece) (take r.n out) s' left
    pub sound : sound_bytes s' ≡ true
    pub few : r.n ≤ length out
    pub within : r.at ≤ length piece
    pub further : from < length piece → from < r.at
