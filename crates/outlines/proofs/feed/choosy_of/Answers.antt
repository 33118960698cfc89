use borrow.Author.Rules.{rules}
use native.Mathlib.Omega.{arith}
use mathlib.Core.Path.{ap, ◌∙◌}
use mathlib.Core.Bool.{false}
use Rattle.foundation.specs.BitMasks.{build_start, build_room, build_turn, build_end}
use Rattle.model.specs.Encoding.{rule_of}
use Rattle.outlines.specs.Feed.{is_choosy}
use Rattle.outlines.proofs.feed.choosy_of.Goals as goal

pub loop-i-init : goal.loop-i-init
loop-i-init c =
    let a = c.args in
    (search rules, build_start 28 rule_of is_choosy a.n a.body.now)

pub overflow_mul-m : goal.overflow_mul-m
overflow_mul-m c =
    let b = c in
    let l = c.loop-i in
    omega (
      arith,
      build_room 28 rule_of is_choosy b.args.n b.args.body.now l.m l.i false (omega arith)
          b.requires.1 l.invariant.1,
    )

pub overflow_add-m : goal.overflow_add-m
overflow_add-m c =
    let b = c in
    let l = c.loop-i in
    omega (
      arith,
      build_room 28 rule_of is_choosy b.args.n b.args.body.now l.m l.i c.is_choosy.result
          (omega arith) b.requires.1 l.invariant.1,
    )

pub loop-i-preserved : goal.loop-i-preserved
loop-i-preserved c =
    let a = c.args in
    let l = c.loop-i in (
      search rules,
      rw c.from.ensures (build_turn 28 rule_of is_choosy a.n a.body.now l.m l.i c.is_choosy.result (omega arith)
          l.invariant.0 l.invariant.1 (c.is_choosy.ensures ∙ ap is_choosy c.rule_at.ensures)),
    )

pub returns : goal.returns
returns c =
    let a = c.args in
    let l = c.loop-i in
    build_end 28 rule_of is_choosy a.n a.body.now l.m l.i (omega arith) l.invariant.1
