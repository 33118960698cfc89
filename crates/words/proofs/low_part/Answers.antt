use Rattle.std.proofs.Common.{ap, ◌∙◌, arith}
use Rattle.std.specs.Prelude.{ℕ, ◌≡◌, ◌-◌}
use Rattle.std.specs.Int.Bits.{bit_and}
use Rattle.std.proofs.lemmas.Nat.{and_mask}
use Rattle.foundation.specs.BitMasks.{bit}
use Rattle.words.proofs.FieldLaws.{bit_shifted}
use Rattle.words.proofs.PartBits.{all_below, below_bit}
use Rattle.words.proofs.low_part.Goals as goal

pub returns-then-r-lt64 : goal.returns-then-r-lt64
returns-then-r-lt64 c = λ i.
    let a = c.args in
    ap (λ (x : ℕ). bit i (bit_and a.m (x - 1))) (bit_shifted a.r c.if-r-lt64.true)
    ∙ ap (bit i) (and_mask a.m a.r) ∙ below_bit a.m a.r i

pub returns-else-r-lt64 : goal.returns-else-r-lt64
returns-else-r-lt64 c = λ i.
    let a = c.args in
    let e : a.r ≡ 64 = omega (arith, c.requires) in
    rw e (all_below 64 a.m i (omega arith))
