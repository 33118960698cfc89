use borrow.Author.Rules.{rules}
use Rattle.foundation.specs.Tests.{eq_true, ne_false}
use Rattle.grounding.proofs.pairs.turn.Goals as goal

pub returns-then-code-eq255 : goal.returns-then-code-eq255
returns-then-code-eq255 c = rw (eq_true c.args.code 255 (search rules))

pub returns-else-code-eq255 : goal.returns-else-code-eq255
returns-else-code-eq255 c = rw (ne_false c.args.code 255 (search rules)) c.from.ensures
