use borrow.Author.Rules.{rules}
use native.Mathlib.Omega.{arith}
use mathlib.Core.Path.{◌≡◌, ap, ◌∙◌}
use lib.ListN.{length}
use Rattle.sections.specs.Sections.{subjects_of, objects_of}
use Rattle.sections.proofs.SectionWrites.{zero-part, part_long, put_back, back-length}
use Rattle.outlines.specs.Coordinates.{subject_on_right, object_on_right}
use Rattle.outlines.proofs.CoordinateTurns.{numbered_start, numbered_turn, both_long, both-subjects}
use Rattle.outlines.proofs.CoordinateTurns.{both-objects, objects-between, both_front}
use Rattle.outlines.proofs.numbers.number_sides.Goals as goal

pub loop-i-init : goal.loop-i-init
loop-i-init c =
    let b = c in
    let body = b.args.body.now in
    let l = b.args.coordinates.now in
    let z = b.requires.2 in (
      search rules,
      numbered_start subject_on_right body (subjects_of l) (zero-part 512 1024 l z),
      numbered_start object_on_right body (objects_of l) (zero-part 1536 130 l z),
      (λ v h. z v),
      b.requires.1,
    )

pub add-s-requires : goal.add-s-requires
add-s-requires c =
    let l = c.loop-i in
    let b = c in
    let e = ap subject_on_right c.rule_at.ensures in
    let g = (b.requires.0.right l.i (omega arith)).subject in (
      omega (arith, part_long 512 1024 l.coordinates (omega (arith, l.invariant.4))),
      omega (arith, l.invariant.1.few, b.requires.0.few),
    )

pub add-o-requires : goal.add-o-requires
add-o-requires c =
    let l = c.loop-i in
    let b = c in
    let e = ap object_on_right c.rule_at.ensures in
    let g = (b.requires.0.right l.i (omega arith)).object in
    let a = c.add-s in
    let long : length l.coordinates ≡ 1666 = l.invariant.4 in
    let p : length a.new.table ≡ 1024 = a.auto.table ∙ part_long 512 1024 l.coordinates (omega arith) in
    let k = back-length l.coordinates 512 1024 a.new.table (omega arith) p in (
      omega (arith, part_long 1536 130 (put_back l.coordinates 512 1024 a.new.table) (omega arith)),
      omega (arith, l.invariant.2.few, b.requires.0.few),
    )

pub loop-i-preserved : goal.loop-i-preserved
loop-i-preserved c =
    let l = c.loop-i in
    let e = c.rule_at.ensures in
    let f = c.add-s in
    let g = c.add-o in
    let s = l.coordinates in
    let y = f.new.table in
    let z = g.new.table in
    let long : length l.coordinates ≡ 1666 = l.invariant.4 in
    let p : length f.new.table ≡ 1024 = f.auto.table ∙ part_long 512 1024 l.coordinates (omega arith) in
    let k = back-length l.coordinates 512 1024 f.new.table (omega arith) p in
    let q : length g.new.table ≡ 130 =
    g.auto.table ∙ part_long 1536 130 (put_back l.coordinates 512 1024 f.new.table) (omega arith) in (
      search rules,
      rw (both-subjects s y z long p q) (numbered_turn l.invariant.1
          (rw (c.from.ensures, ap subject_on_right e) at f.ensures)),
      rw (both-objects s y z long p q) (numbered_turn l.invariant.2
          (rw (c.from-in-loop-i.ensures, ap object_on_right e, objects-between s y z long p q) at g.ensures)),
      (λ v h. both_front s y z long p q v h ∙ l.invariant.3 v h),
      both_long s y z long p q,
    )

pub returns : goal.returns
returns c =
    let l = c.loop-i in
    let e : l.i ≡ c.args.n = omega arith in
    rw (← e) (l.invariant.1, l.invariant.2, l.invariant.3)
