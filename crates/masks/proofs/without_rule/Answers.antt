use mathlib.Core.Path.{ap, ◌∙◌}
use mathlib.Core.Bool.{Bool, not, ◌&&◌}
use Prim.Native.Nat.{◌^◌}
use lib.Bits.{and_le_l}
use Rattle.foundation.specs.BitMasks.{bit}
use Rattle.words.proofs.CutBit.{bit-less, cut-less}
use Rattle.words.proofs.FieldLaws.{bit_shifted}
use Rattle.masks.proofs.SingleBits.{one_bit}
use Rattle.masks.proofs.without_rule.Goals as goal

pub overflow_sub-result : goal.overflow_sub-result
overflow_sub-result c = and_le_l c.args.m _

pub returns : goal.returns
returns c =
    let a = c.args in
    rw (bit_shifted a.r c.requires.0) (
      cut-less a.m a.r c.requires.1,
      λ i. bit-less i a.m (2 ^ a.r) ∙ ap (λ (x : Bool). bit i a.m && not x) (one_bit a.r i),
    )
