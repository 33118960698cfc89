use Rattle.std.proofs.Common.{ap, sym, ◌∙◌, arith}
use Rattle.std.specs.Prelude.{◌≡◌}
use Rattle.foundation.specs.BitMasks.{bit, bit-zero}
use Rattle.words.proofs.FieldLaws.{back_up}
use Rattle.words.proofs.PartBits.{none_from, from_bit}
use Rattle.words.proofs.high_part.Goals as goal

pub returns-then-r-lt64 : goal.returns-then-r-lt64
returns-then-r-lt64 c = λ i.
    let a = c.args in
    ap (bit i) (back_up a.m _ a.r (omega arith) (omega arith)) ∙ from_bit a.m a.r i

pub returns-else-r-lt64 : goal.returns-else-r-lt64
returns-else-r-lt64 c = λ i.
    let a = c.args in
    let e : a.r ≡ 64 = omega (arith, c.requires) in
    bit-zero i ∙ sym (rw e (none_from 64 a.m i (omega arith)))
