-- Of the files before the next one, no more stand than there are.
use Rattle.std.proofs.Common.{◌≤◌, ◌<◌}
use Rattle.vectors.proofs.main.Given as goal

abbrev pub invariant-loop-i : goal.invariant-loop-i
invariant-loop-i l = (1 ≤ l.i) × (l.good < l.i)
