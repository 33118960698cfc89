use Rattle.std.proofs.Common.{◌≡◌, ◌&&◌, eqb, drop}
use Rattle.foundation.specs.Lists.{allb}
use Rattle.fields.proofs.zeros.Given as goal

abbrev pub invariant-loop-x : goal.invariant-loop-x
invariant-loop-x l = allb (λ x. eqb x 0) l.s ≡ l.all && allb (λ x. eqb x 0) (drop l.x-index l.s)
