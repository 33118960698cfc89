use Rattle.queries.proofs.QuestionBodies.{ruleless_bodies}
use Rattle.queries.proofs.asked.AskedBase.without_rules.Goals as goal

pub returns : goal.returns
returns c = λ base b. ruleless_bodies b
