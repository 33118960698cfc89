use Rattle.model.specs.Encoding.{rule_of, decode}
use Rattle.model.specs.Rules.{stands_for}
use Rattle.foundation.specs.RecordLoops.{AnyFrom}
use Rattle.direct.proofs.stands_some.Given as goal

abbrev pub invariant-loop-i : goal.invariant-loop-i
invariant-loop-i l = AnyFrom 28 rule_of (λ q. stands_for (decode l.base.bytes.now) q l.x) l.n l.body l.i
