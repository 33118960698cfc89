use Rattle.edits.proofs.BodyEditRules.{edit-rules}
use Rattle.edits.proofs.set_clock.Goals as goal

pub put32-requires : goal.put32-requires
put32-requires = λ c. search edit-rules

pub returns : goal.returns
returns = λ c. search edit-rules
