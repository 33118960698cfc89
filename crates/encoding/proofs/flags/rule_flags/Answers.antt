use Rattle.encoding.proofs.FlagBytes.{rule_built}
use Rattle.encoding.proofs.flags.rule_flags.Goals as goal

pub returns : goal.returns
returns c =
    let a = c.args in
    rw c.option_flags.ensures (rule_built a.left a.right a.option)
