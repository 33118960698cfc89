use mathlib.Core.Path.{◌≡◌}
use mathlib.Core.Bool.{true, false}
use Rattle.direct.proofs.Choosing.{found_in}
use Rattle.direct.proofs.intervals.holds_among.Given as goal

abbrev pub invariant-loop-w : goal.invariant-loop-w
invariant-loop-w l =
    (l.granted ≡ found_in l.lines l.which l.t false l.w-index) × (l.denied ≡ found_in l.lines l.which l.t true l.w-index)
