use mathlib.Core.Path.{ap, ◌∙◌}
use Rattle.foundation.specs.BitMasks.{bit}
use Rattle.places.proofs.NeedBits.{both-mode}
use Rattle.places.proofs.modes_with_both.Goals as goal

pub returns : goal.returns
returns c = λ m. ap (bit m) c.from.ensures ∙ both-mode c.args.w m
