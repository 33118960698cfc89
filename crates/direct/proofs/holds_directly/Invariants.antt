use mathlib.Core.Path.{◌≡◌}
use mathlib.Core.Bool.{true, false, ◌||◌}
use Prim.Native.Nat.{◌≤◌}
use Rattle.direct.proofs.FoundLoop.{held_from}
use Rattle.direct.proofs.holds_directly.Given as goal

abbrev pub invariant-loop-i : goal.invariant-loop-i
invariant-loop-i l =
    (l.i ≤ l.total) × (held_from l.lines l.total l.x l.t false 0 ≡ l.granted || held_from l.lines l.total l.x l.t false l.i)
    × (held_from l.lines l.total l.x l.t true 0 ≡ held_from l.lines l.total l.x l.t true l.i)
