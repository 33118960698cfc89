use borrow.Author.Rules.{rules}
use native.Mathlib.Omega.{arith}
use mathlib.Core.Path.{refl, ap, ◌∙◌}
use mathlib.Core.Logic.{inr}
use Prim.Native.Nat.{◌<◌}
use Rattle.model.specs.declared.Rule.{Rule}
use Rattle.model.specs.declared.Side.{Side}
use Rattle.encoding.specs.Format.{rule_at}
use Rattle.sections.proofs.SectionWrites.{same_rest}
use Rattle.outlines.proofs.SideCodes.{section_turn, section_kept}
use Rattle.outlines.proofs.sides.draw_right.Goals as goal

abbrev right_side : Rule → Side
right_side r = r.right

pub loop-i-init : goal.loop-i-init
loop-i-init c =
    (search rules, c.requires.1, (λ i h. absurd (omega arith)), (λ k h. refl), refl)

pub overflow_mul-i-in-loop-i : goal.overflow_mul-i-in-loop-i
overflow_mul-i-in-loop-i c = omega (arith, c.requires.0.few)

pub put_side-requires : goal.put_side-requires
put_side-requires c =
    let l = c.loop-i in
    let b = c in
    let g = b.requires.0 in
    let h : l.i < b.args.n = omega arith in
    (omega (arith, g.few), l.invariant.1, rw c.rule_at-r.ensures (g.right l.i h))

pub loop-i-preserved : goal.loop-i-preserved
loop-i-preserved c =
    let l = c.loop-i in
    let b = c in
    let a = b.args in
    let e = ap right_side c.rule_at-r.ensures in
    let p = c.put_side in
    let w = p.ensures in
    let few : l.i < 64 = omega (arith, b.requires.0.few) in (
      search rules,
      p.auto.coordinates ∙ l.invariant.1,
      section_turn a.coordinates.now l.coordinates p.new.coordinates 256 l.i
          (λ j. (rule_at a.body.now j).right) (λ j. 3) few l.invariant.4 l.invariant.2 (rw e at w.0) w.1,
      (λ k h. section_kept l.coordinates p.new.coordinates 256 l.i w.1 k (λ z. omega arith)
          ∙ l.invariant.3 k (omega arith)),
      same_rest l.coordinates p.new.coordinates p.auto.coordinates 512 (λ k h. w.1 k (inr (omega arith)))
          ∙ l.invariant.4,
    )

pub returns : goal.returns
returns c =
    let l = c.loop-i in
    (λ i h. l.invariant.2 i (omega arith), (λ k h. l.invariant.3 k (omega arith)), l.invariant.4)
