use Rattle.std.specs.Prelude.{◌≡◌, ◌≤◌, drop, length}
use Rattle.foundation.specs.Lists.{allb}
use Rattle.withdrawal.specs.Times.{end_of, has_instant}
use Rattle.withdrawal.proofs.rounds.round_end.Given as goal

abbrev pub invariant-loop-i : goal.invariant-loop-i
invariant-loop-i l =
    (l.i ≤ length l.authorizations)
    × (end_of l.t l.authorizations 0 4294967296 ≡ end_of l.t (drop l.i l.authorizations) l.top l.d)
    × (allb has_instant l.authorizations ≡ allb has_instant (drop l.i l.authorizations))
