use Rattle.std.proofs.Common.{arith}
use Rattle.relevance.proofs.ahead.line_ahead.Goals as goal

pub returns-then-t-known : goal.returns-then-t-known
returns-then-t-known c = c.requires.1 (omega arith)

pub returns : goal.returns
returns c = c.nearest_line.ensures
