use mathlib.Core.Path.{◌≡◌}
use mathlib.Core.Bool.{◌&&◌, ◌||◌}
use Prim.Native.Nat.{ℕ, ◌≤◌}
use lib.Dec.{leb, ltb}
use lib.ListN.{length, get_or}
use Rattle.foundation.specs.BitMasks.{bit}
use Rattle.outlines.proofs.left.spread.Given as goal

abbrev pub invariant-loop-w : goal.invariant-loop-w
invariant-loop-w l =
    (l.from ≤ l.w) × (l.w ≤ l.to) × (length l.left ≡ length l.initial.left)
    × ((j r : ℕ) → bit r (get_or l.left j 0) ≡ bit r (get_or l.initial.left j 0) || (leb l.from j && ltb j l.w && bit r l.rules))
