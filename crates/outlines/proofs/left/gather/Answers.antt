use borrow.Author.Rules.{rules}
use native.Mathlib.Omega.{arith}
use mathlib.Core.Path.{◌≡◌, ap, ◌∙◌}
use mathlib.Core.Bool.{Bool, ◌&&◌, ◌||◌}
use lib.Dec.{eqb}
use lib.ListN.{get_or}
use Rattle.outlines.specs.LeftMasks.{in_word}
use Rattle.outlines.proofs.MaskWords.{gather_start, gather_turn}
use Rattle.outlines.proofs.left.gather.Goals as goal

pub loop-i-init : goal.loop-i-init
loop-i-init c =
    let s = c.args.sides.now in
    let l = c.args.left.now in
    let p = c.requires in
    (search rules, p.4, λ w r. gather_start (in_word s r w) r (get_or l w 0) (p.2 w))

pub put_masks-requires : goal.put_masks-requires
put_masks-requires c =
    let l = c.loop-i in
    let p = c.requires in
    (omega (arith, p.0), p.1 l.i (omega arith), p.3, l.invariant.1)

pub loop-i-preserved : goal.loop-i-preserved
loop-i-preserved c =
    let l = c.loop-i in
    let s = c.args.sides.now in (
      search rules,
      c.put_masks.auto.left ∙ l.invariant.1,
      λ w r. c.put_masks.ensures w r
          ∙ ap (λ (b : Bool). b || (eqb r l.i && in_word s l.i w)) (l.invariant.2 w r)
          ∙ gather_turn (λ q. in_word s q w) l.i r,
    )

pub returns : goal.returns
returns c =
    let l = c.loop-i in
    let e : l.i ≡ c.args.n = omega arith in
    rw (← e) l.invariant.2
