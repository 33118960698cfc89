use Rattle.std.proofs.Common.{◌∙◌}
use Rattle.std.specs.Prelude.{◌≡◌, refl, Bool, true, false, not}
use Rattle.foundation.specs.Tests.{pick}
use Rattle.foundation.specs.Graph.{cyclic, heavy}
use Rattle.model.specs.Stratification.{precedes, weight, stratified, stratum}
use Rattle.rules.proofs.ranks.stratify.Goals as goal

otherwise : {A : Type 0} (b : Bool) (x y : A) → pick b x y ≡ pick (not b) y x
otherwise true x y = refl
otherwise false x y = refl

pub returns : goal.returns
unfolding stratified stratum
returns c = c.rank.ensures ∙ otherwise (cyclic precedes (heavy weight) c.args.rules.now) _ _
