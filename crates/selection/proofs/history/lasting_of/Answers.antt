use Rattle.std.proofs.Common.{rules}
use Rattle.model.specs.Stratification.{lasting}
use Rattle.encoding.specs.Format.{rule_at}
use Rattle.selection.proofs.history.lasting_of.Goals as goal

pub returns : goal.returns
returns c =
    let body = c.args.body.now in
    c.those.ensures (λ r. lasting (rule_at body r).operator) (λ r b e p. search rules)
