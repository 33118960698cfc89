use mathlib.Core.Path.{◌≡◌}
use mathlib.Core.Bool.{true}
use Prim.Native.Nat.{ℕ, ◌<◌}
use lib.ListN.{get_or}
use Rattle.foundation.specs.BitMasks.{bit}
use Rattle.places.proofs.modes_of.Given as goal

abbrev pub invariant-loop-x : goal.invariant-loop-x
invariant-loop-x l =
    ((i k : ℕ) → i < l.x-index → bit k (get_or l.need i 0) ≡ true → bit k l.all ≡ true)
