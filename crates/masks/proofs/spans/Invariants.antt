use mathlib.Core.Path.{◌≡◌}
use mathlib.Core.List.{List}
use Prim.Native.Nat.{ℕ}
use lib.ListN.{get_or}
use Rattle.foundation.specs.BitMasks.{bit}
use Rattle.encoding.specs.Format.{rule_at}
use Rattle.windows.specs.Windows.{inside}
use Rattle.words.proofs.SetBitLoops.{ForEach}
use Rattle.masks.proofs.spans.Given as goal

-- the word of rule r has its instants
abbrev pub Spanned : List ℕ → List ℕ → ℕ → List ℕ → ℕ → Type 0
Spanned body marks count active r =
    (j : ℕ) → bit j (get_or active r 0) ≡ inside count marks (rule_at body r).interval j

abbrev pub invariant-loop-r : goal.invariant-loop-r
invariant-loop-r l = ForEach l.yielded (Spanned l.body l.marks l.count l.active)
