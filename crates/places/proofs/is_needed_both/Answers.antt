use mathlib.Core.Path.{◌∙◌}
use Prim.Native.Nat.{◌/◌, ◌^◌}
use lib.Bits.{bit_and}
use Rattle.places.proofs.NeedBits.{lowest_bit, both-bit}
use Rattle.places.proofs.is_needed_both.Goals as goal

pub returns : goal.returns
returns c =
    let a = c.args in lowest_bit (bit_and a.w (a.w / 2 ^ 8)) a.m ∙ both-bit a.w a.m
