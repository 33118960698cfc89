-- The word of a rule: what the code for it is to give.
use Rattle.std.specs.Prelude.{◌≡◌, Bool, true, false, ℕ, ◌≤◌, ◌<◌}
use Rattle.foundation.specs.BitMasks.{bit}
use Rattle.model.specs.declared.Operator.{Operator}
use Rattle.derivation.specs.Words.{derived_word}

-- a is the first bit of a word
pub record FirstBit (a active : ℕ) : Type 0 where
  pub set : bit a active ≡ true
  pub none : (i : ℕ) → i < a → bit i active ≡ false

-- r is what a rule derives that is active at some instants, and held as the operator wants at some of them
pub record Derived (o : Operator) (held active : ℕ) (broken : Bool) (r : ℕ) : Type 0 where
  pub within : r ≤ active
  pub word : (a : ℕ) → FirstBit a active → (i : ℕ) → bit i r ≡ bit i (derived_word o held active broken a)
