use Prim.Native.Nat.{◌-◌}
use lib.ListN.{length}
use Rattle.serving.proofs.Walk.{LineWalk}
use Rattle.serving.proofs.taking.take_line.Given as goal

abbrev pub invariant-loop-i : goal.invariant-loop-i
invariant-loop-i l = LineWalk l.len l.initial.line l.piece l.from l.n l.i l.line

abbrev pub decreases-loop-i : goal.decreases-loop-i
decreases-loop-i l = length l.piece - l.i
