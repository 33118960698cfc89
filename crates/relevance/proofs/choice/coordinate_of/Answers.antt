use Rattle.std.proofs.Common.{arith, rules}
use Rattle.foundation.specs.Tests.{eq_true, ne_false}
use Rattle.relevance.proofs.choice.coordinate_of.Goals as goal

pub returns-then-entry-ne0 : goal.returns-then-entry-ne0
returns-then-entry-ne0 c = ((rw (ne_false c.args.entry 0 (search rules))), omega arith)

pub returns-then-own : goal.returns-then-own
returns-then-own c = ((rw (eq_true c.args.entry 0 (search rules), c.if-own.true)), omega arith)

pub returns : goal.returns
returns c = ((rw (eq_true c.args.entry 0 (search rules), c.if-own.false)), omega arith)
