use borrow.Author.Rules.{rules}
use native.Mathlib.Omega.{arith}
use mathlib.Core.Path.{◌∙◌}
use Rattle.outlines.proofs.Controlling.{upto_none, upto_turn, upto_all}
use Rattle.outlines.proofs.controlled.join_each.Goals as goal

pub loop-v-init : goal.loop-v-init
loop-v-init c =
    let a = c.args in (
      search rules,
      upto_none a.base.now.bytes.now a.body.now a.objects.now a.left.now,
      c.requires.4,
    )

pub join_controlled-requires : goal.join_controlled-requires
join_controlled-requires c =
    let b = c in
    let l = c.loop-v in (
      b.requires.0,
      b.requires.2,
      omega arith,
      omega (arith, c.from.ensures, b.requires.1.below l.v),
      l.invariant.2,
    )

pub loop-v-preserved : goal.loop-v-preserved
loop-v-preserved c =
    let b = c in
    let l = c.loop-v in
    let j = c.join_controlled.ensures in (
      search rules,
      upto_turn b.requires.1 l.invariant.1
          (rw c.from.ensures at j.0) j.1,
      c.join_controlled.auto.left ∙ l.invariant.2,
    )

pub returns : goal.returns
returns c =
    let l = c.loop-v in
    upto_all (omega (arith, c.requires.3)) l.invariant.1
