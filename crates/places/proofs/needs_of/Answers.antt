use Rattle.places.proofs.NeedBits.{needs_fit}
use Rattle.places.proofs.needs_of.Goals as goal

pub returns : goal.returns
returns c = needs_fit c.args.signs c.args.mode c.requires.0 c.requires.1
