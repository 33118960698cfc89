use Rattle.std.proofs.Common.{length, ◌-◌, ◌≡◌}
use Rattle.vectors.proofs.LineWalks.{Goes}
use Rattle.vectors.proofs.checks.check_lines.Given as goal

abbrev pub invariant-loop-at : goal.invariant-loop-at
invariant-loop-at l =
    Goes l.text l.s l.out l.n l.lines l.at l.title × (length l.s ≡ length l.initial.s) × (length l.out ≡ length l.initial.out)

abbrev pub decreases-loop-at : goal.decreases-loop-at
decreases-loop-at l = length l.text - l.at
