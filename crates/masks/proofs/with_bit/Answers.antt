use mathlib.Core.Path.{ap, ◌∙◌}
use mathlib.Core.Bool.{Bool, ◌||◌}
use Prim.Native.Nat.{◌^◌}
use Rattle.foundation.specs.BitMasks.{bit}
use Rattle.foundation.specs.BitLaws.{bit_or_lem}
use Rattle.words.proofs.FieldLaws.{bit_shifted}
use Rattle.masks.proofs.SingleBits.{one_bit}
use Rattle.masks.proofs.with_bit.Goals as goal

pub returns : goal.returns
returns c =
    let a = c.args in
    rw (bit_shifted a.r c.requires) (λ i. bit_or_lem a.m (2 ^ a.r) i
    ∙ ap (λ (x : Bool). bit i a.m || x) (one_bit a.r i))
