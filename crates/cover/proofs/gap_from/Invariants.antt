use mathlib.Core.Path.{◌≡◌}
use Prim.Native.Nat.{◌-◌, ◌≤◌}
use Rattle.cover.specs.Cover.{gap_in}
use Rattle.cover.proofs.gap_from.Given as goal

abbrev pub invariant-loop-t : goal.invariant-loop-t
invariant-loop-t l = (l.a ≤ l.t) × (gap_in l.w l.authorizations l.a l.b ≡ gap_in l.w l.authorizations l.t l.b)

abbrev pub decreases-loop-t : goal.decreases-loop-t
decreases-loop-t l = l.b - l.t
