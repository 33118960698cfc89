use Rattle.std.proofs.Common.{sym, arith}
use Rattle.relevance.proofs.Nearness.{reached_near, reached_none}
use Rattle.relevance.proofs.distance.mark_at.Goals as goal

pub returns-then-d-t : goal.returns-then-d-t
returns-then-d-t c = let a = c.args in sym (reached_near a.t a.d (omega arith))

pub returns : goal.returns
returns c = let a = c.args in sym (reached_none a.t a.d (omega arith))
