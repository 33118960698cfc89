use Rattle.std.proofs.Common.{◌∙◌, sym, ap}
use Rattle.std.specs.Prelude.{◌≡◌, refl, Bool, true, false, not, Option, None, Some, option_map, is_some}
use mathlib.Core.Bool.{not-not}
use Rattle.foundation.specs.Tests.{pick}
use Rattle.model.proofs.CirclePaths.{circular-cyclic}
use Rattle.rules.proofs.ranks.is_circular.Goals as goal

same_shape : {A B : Type 0} (f : A → B) (o : Option A) → is_some (option_map f o) ≡ is_some o
same_shape f None = refl
same_shape f (Some x) = refl

none_if : {A : Type 0} (b : Bool) (x : A) → is_some (pick b None (Some x)) ≡ not b
none_if true x = refl
none_if false x = refl

pub returns : goal.returns
returns c =
    sym (not-not c.is_none.result)
    ∙ ap not (sym c.is_none.ensures ∙ sym (same_shape _ c.rank.result) ∙ ap is_some c.rank.ensures ∙ none_if _ _)
    ∙ not-not _ ∙ sym (circular-cyclic c.args.rules.now)
