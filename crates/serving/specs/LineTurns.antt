-- One line of a session over the bytes of a base, and pieces of input: what a step takes, prints and leaves.
use Rattle.std.specs.Prelude.{◌≡◌, ℕ, ◌≤◌, min, true, List, length, take}
use Rattle.model.specs.Soundness.{sound_bytes}
use Rattle.model.specs.Text.{read_line}
use Rattle.model.specs.Session.{ByteTurn, byte_turn, reply_line}

-- what a line is answered on the bytes s
abbrev pub line_turn : List ℕ → List ℕ → ByteTurn
line_turn s line = byte_turn s (read_line line)

-- a line was answered: n bytes stand at the front of `out`, and s' in the place of s
pub record Turned (s line : List ℕ) (n : ℕ) (out s' : List ℕ) : Type 0 where
  pub text : take n out ≡ reply_line s line
  pub few : n ≤ 24001
  pub bytes : s' ≡ (line_turn s line).lent
  pub sound : sound_bytes s' ≡ true

-- the first bytes of the line that is not ended yet, `pending`, are kept: as many as tell that it is too long
pub record LineKept (pending : List ℕ) (len : ℕ) (line : List ℕ) : Type 0 where
  pub count : len ≡ min 97 (length pending)
  pub front : take len line ≡ take 97 pending
  pub size : length line ≡ 97
