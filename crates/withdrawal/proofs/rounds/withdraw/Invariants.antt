use Rattle.std.specs.Prelude.{◌≡◌, ◌-◌, ◌≤◌, ◌<◌, true}
use Rattle.foundation.specs.Lists.{allb}
use Rattle.model.specs.Support.{root_in}
use Rattle.withdrawal.specs.Times.{has_instant}
use Rattle.withdrawal.specs.WithdrawalRounds.{stayers}
use Rattle.withdrawal.proofs.rounds.withdraw.Given as goal

abbrev pub invariant-loop-t : goal.invariant-loop-t
invariant-loop-t l =
    (l.t ≤ 4294967296)
    × (0 < l.t → allb has_instant l.authorizations ≡ true)
    × (l.body ≡ stayers (root_in l.roots.owners l.roots.administrators) l.cut l.authorizations l.t)

abbrev pub decreases-loop-t : goal.decreases-loop-t
decreases-loop-t l = 4294967296 - l.t
