use mathlib.Core.Path.{◌≡◌, sym, ◌∙◌}
use mathlib.Core.Bool.{true, false}
use lib.Bits.{and_le_l}
use Rattle.model.specs.Stratification.{negating}
use Rattle.evaluation.proofs.wanted_word.Goals as goal

pub overflow_sub-result : goal.overflow_sub-result
overflow_sub-result c = let a = c.args in and_le_l a.active a.held

pub returns-then-is_negating : goal.returns-then-is_negating
returns-then-is_negating c =
    let e : negating c.args.o ≡ true = sym c.is_negating.ensures
    ∙ c.if-is_negating.true in
    rw e

pub returns : goal.returns
returns c =
    let e : negating c.args.o ≡ false = sym c.is_negating.ensures
    ∙ c.if-is_negating.false in
    rw e
