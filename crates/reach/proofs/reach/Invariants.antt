use mathlib.Core.Path.{◌≡◌}
use mathlib.Core.Bool.{true}
use Prim.Native.Nat.{ℕ, ◌≤◌}
use lib.ListN.{length}
use Rattle.foundation.specs.BitMasks.{bit}
use Rattle.reach.specs.Net.{has, ClosedBut, Only}
use Rattle.reach.specs.Reach.{remaining}
use Rattle.reach.proofs.reach.Given as goal

abbrev pub invariant-loop-j : goal.invariant-loop-j
invariant-loop-j l =
    ClosedBut (record { left = l.left; right = l.right; subjects = l.subjects }) l.need l.todo
    × ((b : ℕ) → bit b l.bits ≡ true → has l.need l.pair b ≡ true)
    × (l.from ≤ length l.todo)
    × (length l.need ≡ length l.initial.need) × (length l.todo ≡ length l.initial.need)
    × Only (record { left = l.left; right = l.right; subjects = l.subjects }) l.pair l.need
    × Only (record { left = l.left; right = l.right; subjects = l.subjects }) l.pair l.todo

abbrev pub decreases-loop-j : goal.decreases-loop-j
decreases-loop-j l = remaining l.need l.todo
