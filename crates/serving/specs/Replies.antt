-- A reply on a line of its own in a buffer.
use Rattle.std.specs.Prelude.{◌≡◌, ℕ, ◌≤◌, List, [], ◌∷◌, ◌++◌, length, take}
use Rattle.model.specs.Text.{newline}

-- the text and a newline stand at the front, n bytes in all
pub record PrintedLine (text before after : List ℕ) (n : ℕ) : Type 0 where
  pub front : take n after ≡ text ++ (newline ∷ [])
  pub few : n ≤ 24001
  pub room : length after ≡ length before
