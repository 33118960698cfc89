use mathlib.Core.Path.{ap₂, ◌∙◌}
use Rattle.places.specs.Needs.{needs_of}
use Rattle.reach.specs.Net.{right_needs}
use Rattle.reach.proofs.net.RuleNet.right_needs.Goals as goal

pub needs_of-requires : goal.needs_of-requires
needs_of-requires c =
    let p = c.requires in
    (rw c.from-signs.ensures p.2, rw c.turn-m.ensures p.1)

pub returns : goal.returns
unfolding right_needs
returns c =
    c.needs_of.ensures
    ∙ ap₂ needs_of c.from-signs.ensures c.turn-m.ensures
