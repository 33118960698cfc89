use mathlib.Core.Path.{◌≡◌}
use mathlib.Core.Bool.{true, false}
use Prim.Native.Nat.{ℕ}
use lib.ListN.{get_or}
use Rattle.foundation.specs.BitMasks.{bit}
use Rattle.words.specs.Bits.{less}
use Rattle.words.specs.SetBits.{among}
use Rattle.facts.specs.Sharing.{UsesTable}
use Rattle.facts.proofs.sharing.share_starts.Given as goal

abbrev pub invariant-loop-c : goal.invariant-loop-c
invariant-loop-c l =
    ((i : ℕ) → bit i (less l.rules l.tables) ≡ false → get_or l.first i 0 ≡ get_or l.initial.first i 0)
    × ((i : ℕ) → among i l.yielded ≡ true → (d : ℕ) × UsesTable l.body l.right l.first l.tables i d)
