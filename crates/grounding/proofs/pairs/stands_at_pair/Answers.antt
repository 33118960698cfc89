use mathlib.Core.Path.{sym, ◌∙◌}
use Prim.Native.Nat.{ℕ, ◌+◌}
use lib.ListN.{get_or}
use Rattle.foundation.specs.Tests.{and-true, and_intro}
use Rattle.foundation.specs.BitMasks.{bit}
use Rattle.foundation.specs.BitLaws.{bit_and_lem}
use Rattle.grounding.proofs.pairs.stands_at_pair.Goals as goal

pub returns : goal.returns
returns c =
    let a = c.args in
    let x : ℕ = get_or a.left.now a.o 0 in
    let y : ℕ = get_or a.left.now (65 + a.s) 0 in
    let e = bit_and_lem x y a.t.rule in (
      λ r. and-true (bit a.t.rule x) (bit a.t.rule y) (sym e ∙ r),
      λ p q. e ∙ and_intro (bit a.t.rule x) (bit a.t.rule y) p q,
    )
