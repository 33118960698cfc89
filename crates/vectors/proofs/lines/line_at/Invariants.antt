use Rattle.std.proofs.Common.{length, ◌-◌}
use Rattle.vectors.proofs.LineWalks.{TextWalk}
use Rattle.vectors.proofs.lines.line_at.Given as goal

abbrev pub invariant-loop-i : goal.invariant-loop-i
invariant-loop-i l = TextWalk l.text l.from l.i

abbrev pub decreases-loop-i : goal.decreases-loop-i
decreases-loop-i l = length l.text - l.i
