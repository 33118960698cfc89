use mathlib.Core.Path.{◌≡◌}
use mathlib.Core.Bool.{true}
use mathlib.Core.List.{List}
use Prim.Native.Nat.{ℕ}
use lib.ListN.{get_or}
use Rattle.words.specs.SetBits.{among}
use Rattle.words.proofs.SetBitLoops.{AtPlace}
use Rattle.selection.specs.Selection.{position}
use Rattle.selection.proofs.ranking.spread_strata.Given as goal

-- rule r has its rank
abbrev pub Given : List ℕ → ℕ → List ℕ → ℕ → Type 0
Given ranks needed strata r = get_or strata r 0 ≡ get_or ranks (position needed r) 0

abbrev pub invariant-loop-r : goal.invariant-loop-r
invariant-loop-r l =
    AtPlace l.needed l.yielded (λ n. l.k ≡ position l.needed n)
    × ((i : ℕ) → among i l.yielded ≡ true → Given l.ranks l.needed l.strata i)
