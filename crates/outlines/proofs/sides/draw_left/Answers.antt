use borrow.Author.Rules.{rules}
use native.Mathlib.Omega.{arith}
use mathlib.Core.Logic.{inr}
use mathlib.Core.Path.{◌≡◌, refl, ap, ap₂, ◌∙◌}
use Prim.Native.Nat.{ℕ, ◌+◌, ◌*◌, ◌<◌}
use Rattle.foundation.specs.BitMasks.{bit_le}
use Rattle.foundation.specs.BytesFacts.{rest_behind}
use Rattle.model.specs.declared.Rule.{Rule}
use Rattle.model.specs.declared.Side.{Side}
use Rattle.encoding.specs.Format.{rule_at}
use Rattle.sections.proofs.SectionWrites.{same_rest}
use Rattle.outlines.specs.Outline.{signs_of}
use Rattle.outlines.proofs.SideCodes.{section_turn}
use Rattle.outlines.proofs.sides.draw_left.Goals as goal

abbrev left_side : Rule → Side
left_side r = r.left

pub loop-i-init : goal.loop-i-init
loop-i-init c = (search rules, c.requires.1, (λ i h. absurd (omega arith)), refl)

pub overflow_mul-signs : goal.overflow_mul-signs
overflow_mul-signs c = omega
    (arith, c.from-in-loop-i.ensures, bit_le c.rule_at-r.result.right.negative)

pub overflow_add-signs : goal.overflow_add-signs
overflow_add-signs c =
    let r = c.rule_at-r.result in
    omega (
      arith,
      c.from-in-loop-i.ensures,
      bit_le r.right.negative,
      c.from.ensures,
      bit_le r.left.negative,
    )

pub overflow_mul-i-in-loop-i : goal.overflow_mul-i-in-loop-i
overflow_mul-i-in-loop-i c =
    omega (arith, c.requires.0.few)

pub put_side-requires : goal.put_side-requires
put_side-requires c =
    let l = c.loop-i in
    let b = c in
    let g = b.requires.0 in
    let h : l.i < b.args.n = omega arith in (
      omega (arith, g.few),
      l.invariant.1,
      rw c.rule_at-r.ensures (g.left l.i h),
    )

pub loop-i-preserved : goal.loop-i-preserved
loop-i-preserved c =
    let l = c.loop-i in
    let b = c in
    let s = b.args.body.now in
    let c₀ = b.args.coordinates.now in
    let r = c.rule_at-r in
    let j = c in
    let g : j.from.result + 2 * j.from-in-loop-i.result ≡ signs_of (rule_at s l.i) =
    ap₂ (λ (x y : ℕ). x + 2 * y) j.from.ensures j.from-in-loop-i.ensures
    ∙ ap signs_of r.ensures in
    let p = c.put_side in
    let w = p.ensures in
    let few : l.i < 64 = omega (arith, b.requires.0.few) in (
      search rules,
      p.auto.coordinates ∙ l.invariant.1,
      section_turn c₀ l.coordinates p.new.coordinates 0 l.i (λ j. (rule_at s j).left)
          (λ j. signs_of (rule_at s j)) few (rest_behind c₀ l.coordinates 256 512 (omega arith) l.invariant.3)
          l.invariant.2 (rw (ap left_side r.ensures, g) at w.0) w.1,
      same_rest l.coordinates p.new.coordinates p.auto.coordinates 256 (λ k h. w.1 k (inr (omega arith)))
          ∙ l.invariant.3,
    )

pub returns : goal.returns
returns c =
    let l = c.loop-i in
    (λ i h. l.invariant.2 i (omega arith), l.invariant.3)
