use mathlib.Core.Path.{◌≡◌}
use Prim.Native.Nat.{ℕ, ◌<◌}
use lib.ListN.{get_or}
use Rattle.places.specs.ReachedNumbers.{used_before}
use Rattle.places.proofs.number_pairs.Given as goal

abbrev pub invariant-loop-j : goal.invariant-loop-j
invariant-loop-j l =
    (l.n ≡ used_before l.need l.j)
    × ((i : ℕ) → i < l.j → get_or l.number i 0 ≡ used_before l.need i)
