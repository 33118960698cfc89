use native.Mathlib.Omega.{arith}
use Prim.Native.Nat.{◌/◌, ◌^◌}
use lib.Count.{trailing_le}
use Rattle.foundation.specs.BitMasks.{none_between}
use Rattle.words.proofs.FieldLaws.{next_set}
use Rattle.words.proofs.next_bit.Goals as goal

pub returns-then-r-ge64 : goal.returns-then-r-ge64
returns-then-r-ge64 c = (omega arith, omega arith, (λ i h l. absurd (omega arith)), λ h. absurd (omega arith))

pub overflow_add-k : goal.overflow_add-k
overflow_add-k c = let a = c.args in omega (arith, trailing_le 64 (a.m / 2 ^ a.r))

pub returns-then-k-lt64 : goal.returns-then-k-lt64
returns-then-k-lt64 c =
    let a = c.args in (
      omega arith,
      omega arith,
      (λ i h l. none_between 64 a.m a.r i h (omega arith)),
      λ h. next_set a.m a.r (omega arith),
    )

pub returns : goal.returns
returns c =
    let a = c.args in (
      omega arith,
      omega arith,
      (λ i h l. none_between 64 a.m a.r i h (omega arith)),
      λ h. absurd
          (omega arith),
    )
