use mathlib.Core.Path.{◌≡◌}
use mathlib.Core.Bool.{true}
use Prim.Native.Nat.{ℕ, ◌<◌}
use lib.ListN.{get_or}
use Rattle.places.specs.ReachedNumbers.{used, used_before}
use Rattle.places.specs.ReachedNumbers.{code_of}
use Rattle.places.proofs.list_pairs.Given as goal

abbrev pub invariant-loop-j : goal.invariant-loop-j
invariant-loop-j l =
    (l.n ≡ used_before l.need l.j)
    × ((i : ℕ) → i < l.j → used (get_or l.need i 0) ≡ true → get_or l.codes (used_before l.need i) 0 ≡ code_of l.subjects i)
