use Rattle.std.specs.Prelude.{◌≡◌, ◌≤◌, length, drop}
use Rattle.cover.specs.Sweep.{sweep_of}
use Rattle.cover.proofs.sweep.Given as goal

abbrev pub invariant-loop-i : goal.invariant-loop-i
invariant-loop-i l =
    (l.i ≤ length l.authorizations)
    × (sweep_of l.w l.b l.authorizations l.t ≡ sweep_of l.w l.b (drop l.i l.authorizations) l.u)
