use mathlib.Core.Path.{ap, ap₂, ◌∙◌}
use mathlib.Core.Bool.{Bool, ◌||◌}
use Prim.Native.Nat.{ℕ, ◌/◌, ◌%◌}
use lib.Dec.{eqb}
use lib.Bits.{bit_or}
use lib.Pow.{shr-shr}
use Rattle.foundation.specs.BitMasks.{bit}
use Rattle.foundation.specs.BitLaws.{bit_or_lem, bit_rest}
use Rattle.places.proofs.either_sign.Goals as goal

pub returns : goal.returns
returns c = λ k h.
    let x = c.args.x in
    ap (λ (y : ℕ). bit k (bit_or (y % 256) (y / 256))) c.from-y.ensures
    ∙ bit_or_lem (x % 256) (x / 256) k
    ∙ ap₂ (λ (a b : Bool). a || b) (bit_rest x k 8 h) (ap (λ (n : ℕ). eqb (n % 2) 1) (shr-shr x 8 k))
