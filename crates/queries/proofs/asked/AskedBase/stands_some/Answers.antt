use Rattle.queries.proofs.QuestionBodies.{rules_as}
use Rattle.queries.proofs.asked.AskedBase.stands_some.Goals as goal

pub returns : goal.returns
returns c = λ base b. c.stands_some.ensures base (rules_as b) b.powers
