use borrow.Author.Rules.{rules}
use native.Mathlib.Omega.{arith}
use mathlib.Core.Path.{ap, ◌∙◌}
use mathlib.Core.Bool.{false}
use mathlib.Core.Bool.{◌||◌}
use lib.Dec.{eqb}
use Rattle.foundation.specs.Tests.{ne_false}
use Rattle.foundation.specs.BitMasks.{build_start, build_room, build_turn, build_end}
use Rattle.model.specs.Encoding.{rule_of}
use Rattle.outlines.specs.LeftMasks.{on_subject}
use Rattle.outlines.proofs.left.own_masks.Invariants.{on_object}
use Rattle.outlines.proofs.left.own_masks.Goals as goal

pub loop-i-init : goal.loop-i-init
loop-i-init c =
    let a = c.args in (
      search rules,
      build_start 28 rule_of (on_object a.base.now.bytes.now a.x.object) a.n a.body.now,
      build_start 28 rule_of (on_subject a.x.subject) a.n a.body.now,
    )

pub overflow_mul-objects : goal.overflow_mul-objects
overflow_mul-objects c =
    let b = c in
    let l = c.loop-i in
    omega (
      arith,
      build_room 28 rule_of (on_object b.args.base.now.bytes.now b.args.x.object) b.args.n
          b.args.body.now l.objects l.i false (omega arith) b.requires.1 l.invariant.1,
    )

pub overflow_add-objects : goal.overflow_add-objects
overflow_add-objects c =
    let b = c in
    let l = c.loop-i in
    let t = on_object b.args.base.now.bytes.now b.args.x.object in
    omega (
      arith,
      build_room 28 rule_of t b.args.n b.args.body.now l.objects l.i
          c.stands_on-object.result (omega arith) b.requires.1
          l.invariant.1,
    )

pub overflow_mul-subjects : goal.overflow_mul-subjects
overflow_mul-subjects c =
    let b = c in
    let l = c.loop-i in
    omega (
      arith,
      build_room 28 rule_of (on_subject b.args.x.subject) b.args.n b.args.body.now
          l.subjects l.i false
          (omega arith) b.requires.1 l.invariant.2,
    )

pub overflow_add-subjects : goal.overflow_add-subjects
overflow_add-subjects c =
    let b = c in
    let l = c.loop-i in
    let t = on_subject b.args.x.subject in
    omega (
      arith,
      build_room 28 rule_of t b.args.n b.args.body.now l.subjects l.i
          (eqb c.rule_at-r.result.left.subject 0 || eqb c.from.result b.args.x.subject) (omega arith)
          b.requires.1 l.invariant.2,
    )

pub loop-i-preserved : goal.loop-i-preserved
loop-i-preserved c =
    let b = c in
    let l = c.loop-i in
    let r = c.rule_at-r in
    let o = c.stands_on-object in
    let t = on_object b.args.base.now.bytes.now b.args.x.object in
    let u = on_subject b.args.x.subject in (
      search rules,
      rw c.from-in-loop-i.ensures (build_turn 28 rule_of t b.args.n b.args.body.now l.objects l.i o.result
          (omega arith)
          l.invariant.0 l.invariant.1 (o.ensures ∙ ap t r.ensures)),
      rw (c.from-in-loop-i-2.ensures, c.from.ensures) (build_turn 28 rule_of u b.args.n b.args.body.now l.subjects l.i
          (u r.result) (omega arith) l.invariant.0 l.invariant.2 (ap u r.ensures)),
    )

pub returns : goal.returns
returns c =
    let b = c in
    let l = c.loop-i in
    let e = c.put_word-2.ensures in
    let f = c.put_word.ensures in
    record {
      object = e 0 ∙ f 0
          ∙ build_end 28 rule_of (on_object b.args.base.now.bytes.now b.args.x.object) b.args.n
          b.args.body.now l.objects l.i (omega arith) l.invariant.1;
      subject = e 65
          ∙ build_end 28 rule_of (on_subject b.args.x.subject) b.args.n b.args.body.now
          l.subjects
          l.i (omega arith) l.invariant.2;
      other = λ w p q. e w ∙ rw (ne_false w 65 q) (f w ∙ rw (ne_false w 0 p));
    }
