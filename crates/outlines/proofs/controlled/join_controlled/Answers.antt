use native.Mathlib.Omega.{arith}
use mathlib.Core.Path.{refl, ap, ◌∙◌}
use mathlib.Core.Bool.{Bool, ◌&&◌, ◌||◌}
use lib.Dec.{eqb}
use lib.ListN.{get_or}
use Rattle.foundation.specs.BitMasks.{bit}
use Rattle.foundation.specs.Tests.{ne_false}
use Rattle.outlines.proofs.Controlling.{stored-word, no_word}
use Rattle.outlines.proofs.controlled.join_controlled.Goals as goal

pub returns-then-at-eq0 : goal.returns-then-at-eq0
returns-then-at-eq0 c =
    let a = c.args in
    ((λ w r h. rw c.if-at-eq0.true (no_word w (bit r (get_or a.left.now w 0)) _ h)), λ w h. refl)

pub returns : goal.returns
returns c =
    let b = c in
    let a = b.args in
    let l = a.left.now in
    let x = c.by_control in
    let p = c.put_word in
    let e = stored-word l p.new.table a.at x.result p.ensures in (
      (λ w r h. e w r ∙ ap (λ (y : Bool). bit r (get_or l w 0) || (eqb w a.at && y)) (x.ensures r)),
      λ w h. p.ensures w ∙ rw (ne_false w a.at (λ z. omega (arith, b.requires.3))),
    )
