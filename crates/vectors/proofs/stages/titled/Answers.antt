use Rattle.std.proofs.Common.{sym, ◌∙◌}
use Rattle.vectors.proofs.stages.titled.Goals as goal

pub returns-then-not-marked : goal.returns-then-not-marked
returns-then-not-marked c = rw (sym c.marked.ensures ∙ c.if-not-marked.true)

pub returns : goal.returns
returns c = rw (sym c.marked.ensures ∙ c.if-not-marked.false)
