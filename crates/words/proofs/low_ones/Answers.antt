use native.Mathlib.Omega.{arith}
use mathlib.Core.Path.{ap, ◌∙◌}
use Prim.Native.Nat.{ℕ, ◌-◌, ◌/◌, ◌^◌}
use lib.Pow.{pow_pos}
use Rattle.words.proofs.FieldLaws.{ones_top, width, one_shifted}
use Rattle.words.proofs.low_ones.Goals as goal

pub overflow_sub-result : goal.overflow_sub-result
overflow_sub-result c = let k = c.args.k in omega (arith, one_shifted k c.requires, width k c.requires)

pub overflow_shr-result : goal.overflow_shr-result
overflow_shr-result c = let k = c.args.k in omega (arith, one_shifted k c.requires, width k c.requires, pow_pos k)

pub returns : goal.returns
returns c =
    let k = c.args.k in
    ap (λ (w : ℕ). 18446744073709551615 / 2 ^ (64 - w)) (one_shifted k c.requires)
    ∙ ones_top (2 ^ k) (width k c.requires)
