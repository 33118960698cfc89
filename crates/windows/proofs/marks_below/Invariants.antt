use Prim.Native.Nat.{◌-◌}
use Rattle.windows.proofs.Halves.{HalvedBetween}
use Rattle.windows.proofs.marks_below.Given as goal

abbrev pub invariant-loop-low : goal.invariant-loop-low
invariant-loop-low l = HalvedBetween l.n l.marks l.t l.low l.high

abbrev pub decreases-loop-low : goal.decreases-loop-low
decreases-loop-low l = l.high - l.low
