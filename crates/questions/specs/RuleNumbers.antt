-- The rules by their numbers.
use Rattle.std.specs.Prelude.{◌≡◌, ℕ, suc, ◌<◌, List, ◌∷◌, length, drop}
use Rattle.foundation.specs.Lists.{Mem}
use Rattle.model.specs.declared.Rule.{Rule}

-- the rules by their places in the list: each has a number, and each number below their count a rule
pub record Numbering (rules : List Rule) (number : Rule → ℕ) (rule : ℕ → Rule) : Type 0 where
  pub numbered : (r : Rule) → Mem r rules → (number r < length rules) × (rule (number r) ≡ r)
  pub ruled : (i : ℕ) → i < length rules → Mem (rule i) rules × (number (rule i) ≡ i)
  pub nth : (i : ℕ) → i < length rules → drop i rules ≡ rule i ∷ drop (suc i) rules
