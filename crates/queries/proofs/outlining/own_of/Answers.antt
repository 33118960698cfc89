use Rattle.foundation.specs.Tests.{ne_false}
use Rattle.queries.proofs.outlining.own_of.Goals as goal

pub returns-then-entry-eq0 : goal.returns-then-entry-eq0
returns-then-entry-eq0 c = rw c.if-entry-eq0.true

pub returns : goal.returns
returns c = rw (ne_false _ _ c.if-entry-eq0.false)
