use Rattle.grounding.proofs.turns.table_region.Goals as goal

pub returns-then-own : goal.returns-then-own
returns-then-own c = rw c.if-own.true c.shape_at.ensures
