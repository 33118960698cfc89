use Rattle.encoding.proofs.FlagBytes.{head_built}
use Rattle.encoding.proofs.flags.head_flags.Goals as goal

pub returns : goal.returns
returns c = head_built c.args.negative c.args.option
