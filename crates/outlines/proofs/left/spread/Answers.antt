use borrow.Author.Rules.{rules}
use native.Mathlib.Omega.{arith}
use mathlib.Core.Path.{◌≡◌, refl, ap, ◌∙◌}
use mathlib.Core.Bool.{Bool, ◌&&◌, ◌||◌}
use Prim.Native.Nat.{◌<◌}
use lib.Dec.{eqb}
use lib.ListN.{length, get_or, length-set}
use Rattle.foundation.specs.BitMasks.{bit}
use Rattle.masks.proofs.Puts.{join-word}
use Rattle.outlines.proofs.MaskWords.{spread_turn, spread_start}
use Rattle.outlines.proofs.left.spread.Goals as goal

pub loop-w-init : goal.loop-w-init
loop-w-init c = (
  search rules,
  search rules,
  refl,
  λ j r. spread_start c.args.from j (bit r (get_or c.args.left.now j 0)) (bit r c.args.rules),
)

pub loop-w-preserved : goal.loop-w-preserved
loop-w-preserved c =
    let l = c.loop-w in
    let a = c.args in
    let h : l.w < length l.left = omega (arith, l.invariant.2, c.requires.1) in (
      search rules,
      search rules,
      simp length-set l.invariant.2,
      λ j r. join-word l.left l.w a.rules j r h
          ∙ ap (λ (b : Bool). b || (eqb j l.w && bit r a.rules)) (l.invariant.3 j r)
          ∙ spread_turn a.from l.w j (bit r (get_or a.left.now j 0)) (bit r a.rules) l.invariant.0,
    )

pub returns : goal.returns
returns c =
    let l = c.loop-w in
    let e : l.w ≡ c.args.to = omega arith in
    rw (← e) l.invariant.3
