use native.Mathlib.Omega.{arith}
use mathlib.Core.Path.{ap₂, ◌∙◌}
use Prim.Native.Nat.{ℕ, ◌-◌}
use lib.Pow.{pow_mono}
use Rattle.foundation.specs.BitMasks.{bit}
use Rattle.foundation.specs.BitLaws.{span_bit}
use Rattle.words.proofs.FieldLaws.{bit_shifted}
use Rattle.words.proofs.span_of.Goals as goal

pub overflow_sub-result : goal.overflow_sub-result
overflow_sub-result c =
    let a = c.args in
    omega (
      arith,
      bit_shifted a.e c.requires.1,
      bit_shifted a.a (omega arith),
      pow_mono {j = a.e} c.requires.0,
    )

pub returns : goal.returns
returns c = λ i.
    let a = c.args in
    ap₂ (λ (x y : ℕ). bit i (x - y)) (bit_shifted a.e c.requires.1) (bit_shifted a.a (omega arith))
    ∙ span_bit a.a a.e i c.requires.0
