use mathlib.Core.Path.{◌≡◌}
use Prim.Native.Nat.{◌≤◌}
use lib.ListN.{length}
use Rattle.outlines.proofs.Controlling.{Upto}
use Rattle.outlines.proofs.controlled.join_each.Given as goal

abbrev pub invariant-loop-v : goal.invariant-loop-v
invariant-loop-v l =
    (l.v ≤ 130) × Upto l.base.bytes.now l.body l.objects l.initial.left l.v l.left × (length l.left ≡ 152)
