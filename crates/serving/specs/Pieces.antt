-- The line that a piece of input ends or goes on with, and what is kept of it: `Took` is what one walk
-- through a piece does.
use Rattle.std.specs.Prelude.{◌≡◌, ℕ, ◌≤◌, ◌<◌, true, false, List, ◌++◌, length, drop}
use Rattle.laws.specs.FirstLine.{has_newline, before_newline, behind_newline}
use Rattle.serving.specs.LineTurns.{LineKept}
use Rattle.serving.specs.declared.taking.Reached.{Reached}

-- a piece was taken from `from` on up to the end of a line, or to its own: where it has come to, and what is
-- kept of that line
pub record Took (pending piece : List ℕ) (from : ℕ) (r : Reached) (line' : List ℕ) : Type 0 where
  pub ended : r.ended ≡ has_newline (drop from piece)
  pub rest : drop r.at piece ≡ behind_newline (drop from piece)
  pub kept : LineKept (pending ++ before_newline (drop from piece)) r.len line'
  pub within : r.at ≤ length piece
  pub further : r.ended ≡ true → from < r.at
  pub whole : r.ended ≡ false → r.at ≡ length piece
