use mathlib.Core.Path.{sym, ◌∙◌}
use mathlib.Core.Bool.{true≢false, false≢true}
use Rattle.foundation.specs.BitMasks.{bit-zero}
use Rattle.grounding.proofs.pairs.standing_modes.Goals as goal

pub returns-then-stands_at_pair : goal.returns-then-stands_at_pair
returns-then-stands_at_pair c =
    let e = rw c.pair_index.ensures at c.modes_at.ensures in
    let w = c.stands_at_pair.ensures.0
    c.if-stands_at_pair.true in
    ((λ m b. (w.0, w.1, sym (e m) ∙ b)), (λ m o s b. e m ∙ b))

pub returns : goal.returns
returns c = (
  (λ m b. absurd (false≢true (sym (bit-zero m) ∙ b))),
  (λ m o s b. absurd (true≢false (sym (c.stands_at_pair.ensures.1 o s) ∙ c.if-stands_at_pair.false))),
)
