use native.Mathlib.Omega.{arith}
use mathlib.Core.Path.{ap₂, ◌∙◌}
use Rattle.places.specs.ReachedNumbers.{pair_index}
use Rattle.reach.specs.Net.{right_pair}
use Rattle.reach.proofs.net.RuleNet.right_pair.Goals as goal

pub pair_index-requires : goal.pair_index-requires
unfolding right_pair
pair_index-requires c =
    let b = c in
    let e = ap₂ (pair_index b.args.self.now.subjects) c.turn.ensures c.turn-2.ensures in
    omega (arith, b.requires.1)

pub returns : goal.returns
unfolding right_pair
returns c =
    let a = c.args in
    c.pair_index.ensures
    ∙ ap₂ (pair_index a.self.now.subjects) c.turn.ensures c.turn-2.ensures
