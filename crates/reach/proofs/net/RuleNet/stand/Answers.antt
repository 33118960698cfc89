use mathlib.Core.Path.{refl}
use Rattle.reach.specs.Net.{standing}
use Rattle.reach.proofs.net.RuleNet.stand.Goals as goal

pub returns : goal.returns
unfolding standing
returns c = refl
