use native.Mathlib.Omega.{arith}
use mathlib.Core.Path.{ap, ◌∙◌}
use Prim.Native.Nat.{ℕ, ◌+◌, ◌*◌, ◌/◌, ◌^◌, ◌≤◌}
use native.Mathlib.Nat.{mul-le-mul_right, div-mul-le_self}
use lib.Bits.{and_le_l}
use lib.Pow.{shr_le}
use Rattle.foundation.specs.BitMasks.{bit}
use Rattle.words.specs.Ones.{ones}
use Rattle.words.proofs.FieldLaws.{back_up}
use Rattle.words.proofs.OnesFacts.{ones-from}
use Rattle.words.proofs.ones_from.Goals as goal

pub overflow_add-result : goal.overflow_add-result
overflow_add-result c = omega (arith, shr_le c.args.x c.args.a)

pub overflow_sub-result : goal.overflow_sub-result
overflow_sub-result c = let y : ℕ = c.args.x / 2 ^ c.args.a in and_le_l y (y + 1)

pub returns : goal.returns
returns c =
    let x = c.args.x in
    let a = c.args.a in
    let e = back_up x (ones (x / 2 ^ a)) a (omega arith) (omega arith) in
    let m : ones (x / 2 ^ a) * 2 ^ a ≤ x / 2 ^ a * 2 ^ a = mul-le-mul_right (2 ^ a) (omega arith) in
    (omega (arith, div-mul-le_self x (2 ^ a)), λ i. ap (bit i) e ∙ ones-from a i x)
