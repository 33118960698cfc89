use Rattle.direct.proofs.is_live_for.Goals as goal

pub returns : goal.returns
returns c = rw c.has_instant.ensures
