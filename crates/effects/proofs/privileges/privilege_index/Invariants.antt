use Rattle.model.specs.Requests.{before}
use Rattle.effects.proofs.PrivilegePlaces.{FirstFrom}
use Rattle.effects.proofs.privileges.privilege_index.Given as goal

abbrev pub invariant-loop-i : goal.invariant-loop-i
invariant-loop-i l = FirstFrom (before l.p) l.privileges l.i
