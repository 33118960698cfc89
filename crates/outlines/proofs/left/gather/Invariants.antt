use mathlib.Core.Path.{◌≡◌}
use mathlib.Core.Bool.{◌&&◌}
use Prim.Native.Nat.{ℕ, ◌≤◌}
use lib.Dec.{ltb}
use lib.ListN.{length, get_or}
use Rattle.foundation.specs.BitMasks.{bit}
use Rattle.outlines.specs.LeftMasks.{in_word}
use Rattle.outlines.proofs.left.gather.Given as goal

abbrev pub invariant-loop-i : goal.invariant-loop-i
invariant-loop-i l =
    (l.i ≤ l.n) × (length l.left ≡ 152) × ((w r : ℕ) → bit r (get_or l.left w 0) ≡ ltb r l.i && in_word l.sides r w)
