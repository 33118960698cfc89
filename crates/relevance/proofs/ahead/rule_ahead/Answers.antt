use Rattle.std.proofs.Common.{arith}
use Rattle.relevance.proofs.ahead.rule_ahead.Goals as goal

pub returns-then-t-known : goal.returns-then-t-known
returns-then-t-known c = c.requires.2 (omega arith)

pub returns : goal.returns
returns c = c.nearest_rule.ensures
