use Rattle.std.specs.Prelude.{◌≤◌, drop, length}
use Rattle.model.specs.Support.{root_in}
use Rattle.withdrawal.proofs.Walks.{RoundAt}
use Rattle.withdrawal.proofs.rounds.do_round.Given as goal

abbrev pub invariant-loop-i : goal.invariant-loop-i
invariant-loop-i l =
    (l.i ≤ length l.authorizations)
    × RoundAt (root_in l.roots.owners l.roots.administrators) l.cut l.authorizations l.times.from l.times.to
    (drop l.i l.authorizations) l.body l.pos
