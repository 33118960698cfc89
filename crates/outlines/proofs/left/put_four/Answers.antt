use mathlib.Core.Path.{ap, ◌∙◌}
use mathlib.Core.Bool.{Bool, ◌&&◌, ◌||◌}
use Prim.Native.Nat.{ℕ}
use lib.Dec.{eqb}
use lib.ListN.{get_or}
use Rattle.foundation.specs.BitMasks.{bit}
use Rattle.outlines.proofs.MaskWords.{four-joined}
use Rattle.outlines.proofs.left.put_four.Goals as goal

pub returns : goal.returns
returns c =
    let a =
    c.args in
    let t : ℕ → Bool = λ r. eqb r a.i in
    λ w r. c.put_mask-4.ensures w r
    ∙ ap (λ (x : Bool). x || (t r && eqb w a.e))
    (c.put_mask-3.ensures w r
    ∙ ap (λ (x : Bool). x || (t r && eqb w a.d))
    (c.put_mask-2.ensures w r
    ∙ ap (λ (x : Bool). x || (t r && eqb w a.b))
    (c.put_mask.ensures w r)))
    ∙ four-joined (bit r (get_or a.left.now w 0)) (t r) (eqb w a.a) (eqb w a.b) (eqb w a.d)
    (eqb w a.e)
