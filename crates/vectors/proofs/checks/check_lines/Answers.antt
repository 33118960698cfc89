use Rattle.std.proofs.Common.{arith, length-take-le, refl, sym, ◌∙◌}
use Rattle.model.specs.EncodingFacts.{sound-length}
use Rattle.vectors.proofs.LineWalks.{goes_start, goes_on, goes_wrong, goes_end, line-here}
use Rattle.vectors.proofs.checks.check_lines.Goals as goal

pub loop-at-init : goal.loop-at-init
loop-at-init c = (goes_start c.args.text.now c.args.s.now c.args.out.now c.requires.0, refl, refl)

pub line_at-p-requires : goal.line_at-p-requires
line_at-p-requires c = c.loop-at.invariant.0.within

pub slice_bounds-line-start : goal.slice_bounds-line-start
slice_bounds-line-start c = c.line_at-p.ensures.low

pub slice_bounds-line-end : goal.slice_bounds-line-end
slice_bounds-line-end c = c.line_at-p.ensures.high

pub slice_bounds-stands-end : goal.slice_bounds-stands-end
slice_bounds-stands-end c =
    let i = c.loop-at.invariant in
    omega (arith, i.0.few, i.2, c.requires.1)

pub slice_bounds-stands-end-in-loop-at : goal.slice_bounds-stands-end-in-loop-at
slice_bounds-stands-end-in-loop-at c =
    let l = c.loop-at in
    sym (length-take-le l.n l.out (omega (arith, l.invariant.0.few, l.invariant.2, c.requires.1)))

pub shape_of-s-then-not-stands : goal.shape_of-s-then-not-stands
shape_of-s-then-not-stands c = c.loop-at.invariant.1

pub shape_of-out-then-not-stands : goal.shape_of-out-then-not-stands
shape_of-out-then-not-stands c = c.loop-at.invariant.2

pub returns-then-not-stands : goal.returns-then-not-stands
returns-then-not-stands c =
    let l = c.loop-at in
    let h = line-here c.args.text.now l.at c.loop-at-test.true c.line_at-p.ensures in
    let e = c.if-not-stands.true in
    (goes_wrong l.invariant.0 c.line_at-p.result.next h (sym e ∙ c.stands.ensures), l.invariant.2)

pub advance-n-requires : goal.advance-n-requires
advance-n-requires c =
    let i = c.loop-at.invariant in
    (i.0.sound, omega (arith, i.2, c.requires.1))

pub overflow_add-lines : goal.overflow_add-lines
overflow_add-lines c = omega (arith, c.loop-at.invariant.0.bounded, c.loop-at-test.true)

pub loop-at-smaller : goal.loop-at-smaller
loop-at-smaller c =
    let f = c.line_at-p.ensures in
    omega (arith, f.further c.loop-at-test.true, f.within)

pub loop-at-preserved : goal.loop-at-preserved
loop-at-preserved c =
    let l = c.loop-at in
    let q = c.loop-at-test.true in
    let f = c.line_at-p.ensures in
    let e = c.if-not-stands.false in
    let a = c.advance-n.ensures in
    let h = line-here c.args.text.now l.at q f in (
      goes_on l.invariant.0 c.line_at-p.result.next h (f.further q) f.within (sym e ∙ c.stands.ensures) a.0
          c.titled-title.ensures,
      sound-length _ a.0.sound ∙ sym (sound-length _ l.invariant.0.sound) ∙ l.invariant.1,
      a.1 ∙ l.invariant.2,
    )

pub shape_of-s : goal.shape_of-s
shape_of-s c = c.loop-at.invariant.1

pub shape_of-out : goal.shape_of-out
shape_of-out c = c.loop-at.invariant.2

pub returns : goal.returns
returns c =
    let i = c.loop-at.invariant in
    (goes_end i.0 (omega (arith, i.0.within)) (omega (arith, i.2, c.requires.1)), i.2)
