-- What the contracts of the program `vectors` say: the place of a line in a text (`Spans`), what a line leads
-- to (`Leads`), and how far a transcript stands (`Checks`).
use Rattle.std.specs.Prelude.{◌≡◌, ℕ, ◌-◌, ◌≤◌, ◌<◌, true, List, [], length, take, drop}
use Rattle.model.specs.Soundness.{sound_bytes}
use Rattle.model.specs.Text.{lines}
use Rattle.laws.specs.FirstLine.{before_newline, behind_newline}
use Rattle.vectors.specs.declared.lines.Span.{Span}
use Rattle.vectors.specs.declared.checks.Checked.{Checked}
use Rattle.vectors.specs.Transcripts.{stage, fresh, next_state, agrees, count_standing, state_after}
use Rattle.vectors.specs.Transcripts.{lines_left}

-- the line that begins at `from`, and what stands behind its newline
pub record Spans (text : List ℕ) (from : ℕ) (r : Span) : Type 0 where
  pub line : take (r.end - from) (drop from text) ≡ before_newline (drop from text)
  pub rest : drop r.next text ≡ behind_newline (drop from text)
  pub low : from ≤ r.end
  pub high : r.end ≤ length text
  pub within : r.next ≤ length text
  pub further : from < length text → from < r.next

-- a line on the bytes s leaves the bytes s', and a reply of n bytes is owed
pub record Leads (s line : List ℕ) (n : ℕ) (s' out : List ℕ) : Type 0 where
  pub stages : stage s' (take n out) ≡ next_state (stage s []) line
  pub few : n ≤ 24001
  pub sound : sound_bytes s' ≡ true

-- a transcript was checked: the verdict, how many lines stand, the reply that is owed behind them, the lines
-- that are left there, and the bounds that a message needs
pub record Checks (text : List ℕ) (r : Checked) (out : List ℕ) : Type 0 where
  pub agreed : r.good ≡ agrees fresh (lines text)
  pub count : r.lines ≡ count_standing fresh (lines text)
  pub owed : take r.n out ≡ (state_after fresh (lines text)).owed
  pub left : lines (drop r.at text) ≡ lines_left fresh (lines text)
  pub few : r.n ≤ 24001
  pub within : r.at ≤ length text
  pub titled : r.title ≤ length text
  pub bounded : r.lines ≤ r.at

-- what a message needs of a text that fits the program's buffer
pub record MessageBounds (text out : List ℕ) (r : Checked) : Type 0 where
  pub few : r.n ≤ length out
  pub within : r.at ≤ length text
  pub titled : r.title ≤ length text
  pub bounded : r.lines ≤ r.at
  pub short : length text ≤ 65536
