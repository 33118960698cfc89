use mathlib.Core.Path.{ap₂, ◌∙◌}
use Prim.Native.Nat.{ℕ, ◌/◌, ◌%◌, ◌^◌}
use lib.Bits.{bit_and, and_mask}
use lib.ListN.{get_or}
use Rattle.words.specs.Fields.{starts, field_of}
use Rattle.words.proofs.field_at.Goals as goal

pub returns : goal.returns
unfolding field_of
returns c =
    let a = c.args in
    let n : ℕ = starts a.k a.i in
    ap₂ (λ (n m : ℕ). bit_and (get_or a.words.now (n / 64) 0 / 2 ^ (n % 64)) m)
    c.start_of-n.ensures c.low_ones.ensures
    ∙ and_mask (get_or a.words.now (n / 64) 0 / 2 ^ (n % 64)) (2 ^ a.k)
