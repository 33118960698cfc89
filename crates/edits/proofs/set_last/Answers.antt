use Rattle.edits.proofs.BodyEditRules.{edit-rules}
use Rattle.edits.proofs.set_last.Goals as goal

pub put16-requires : goal.put16-requires
put16-requires = λ c. search edit-rules

pub returns : goal.returns
returns = λ c. search edit-rules
