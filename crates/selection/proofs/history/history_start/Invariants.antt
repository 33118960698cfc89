use mathlib.Core.Path.{◌≡◌}
use mathlib.Core.Bool.{true}
use Prim.Native.Nat.{ℕ, ◌≤◌}
use Rattle.words.specs.SetBits.{among}
use Rattle.selection.proofs.Seen.{Seen}
use Rattle.selection.proofs.history.history_start.Given as goal

abbrev pub invariant-loop-r : goal.invariant-loop-r
invariant-loop-r l =
    (l.least ≤ l.t) × ((i : ℕ) → among i l.yielded ≡ true → Seen l.body l.t l.least l.back i)
