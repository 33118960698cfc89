use borrow.Author.Rules.{rules}
use native.Mathlib.Omega.{arith}
use mathlib.Core.Path.{refl, sym, ap, ◌∙◌}
use mathlib.Core.Logic.{inl, inr}
use Prim.Native.Nat.{◌≤◌, ◌<◌}
use lib.ListN.{length}
use lib.Seq.{length-take-le}
use Rattle.model.specs.declared.Rule.{Rule}
use Rattle.encoding.specs.Format.{rule_at}
use Rattle.model.specs.Stratification.{lasting}
use Rattle.sections.specs.Sections.{left_of, numbered_of, listed_of, fields_of, broken_of}
use Rattle.grounding.specs.declared.RuleTurn.{RuleTurn}
use Rattle.grounding.specs.RuleSteps.{Mark}
use Rattle.grounding.proofs.Parts.{both-length}
use Rattle.grounding.proofs.StepRows.{row-length}
use Rattle.grounding.proofs.TurnRounds.{ready_as, ran_as}
use Rattle.grounding.proofs.turns.mark_rule.Goals as goal

pub turn_of-t-requires : goal.turn_of-t-requires
turn_of-t-requires c =
    let s = c in
    let p = s.requires.0 in (
      p.low,
      p.there,
      p.rules,
      p.signs,
      p.size,
      p.start,
      p.ready.narrow,
      s.requires.1.outlined,
      s.requires.1.placed,
    )

pub slice_bounds-range_of-end : goal.slice_bounds-range_of-end
slice_bounds-range_of-end c =
    let early = c in
    let s = early in
    sym (length-take-le (length s.args.need.now) s.args.numbers.now
    (omega (arith, s.requires.1.numbered)))

pub slice_bounds-mark_pairs-end : goal.slice_bounds-mark_pairs-end
slice_bounds-mark_pairs-end c =
    let early = c in
    let s = early in
    omega (arith, s.requires.1.outlined)

pub mark_pairs-requires : goal.mark_pairs-requires
mark_pairs-requires c =
    let d = c in
    let early = d in
    let s = early in
    let a = s.args in
    let f = a.e.frame in
    let size = length a.need.now in
    let q = ap (λ (t : RuleTurn). t.words) d.turn_of-t.ensures in (
      ready_as f (left_of a.outline.now) a.need.now (listed_of size a.numbers.now)
          (numbered_of size a.numbers.now) d.turn_of-t.ensures c.range_of-n.ensures
          a.work.now s.requires.0.pairs,
      omega (arith, length-take-le 152 a.outline.now (omega (arith, s.requires.1.outlined))),
      s.requires.1.numbered,
      rw q s.requires.1.roomy,
      s.requires.2,
      ap (λ (t : RuleTurn). lasting t.operator) d.turn_of-t.ensures ∙ s.requires.3,
    )

pub shape_of-work : goal.shape_of-work
shape_of-work c =
    let g = c in
    let d = g in
    let early = d in
    let a = early.args in
    let new = g.mark_pairs.new.work in
    let e = g.mark_pairs.ensures in
    both-length d.turn_of-t.result.words new a.work.now (ap length e.1)
    (row-length (λ p u v s. s.lengths) e.0.steps)

pub returns-then-q-e : goal.returns-then-q-e
returns-then-q-e c =
    let g = c in
    let d = g in
    let b = d in
    let a = b.args in
    let f = a.e.frame in
    let size = length a.need.now in
    let h : (rule_at a.body.now a.r).interval.start ≤ a.e.mark =
    omega (arith, ap (λ (x : Rule). x.interval.start) b.rule_at-q.ensures) in
    let q = ap (λ (t : RuleTurn). t.words) d.turn_of-t.ensures in
    let new = g.mark_pairs.new.work in
    let e = g.mark_pairs.ensures in (
      inr (
        h,
        ran_as f (left_of a.outline.now) a.need.now (listed_of size a.numbers.now)
            (numbered_of size a.numbers.now) d.turn_of-t.ensures
            g.range_of-n.ensures
            (λ t. Mark t f (numbered_of size a.numbers.now) (fields_of t.words a.work.now)
            a.e.last)
            (λ k. broken_of k a.work.now) (λ k. broken_of k new) e.0,
      ),
      rw q at e.1,
    )

pub returns-else-q-e : goal.returns-else-q-e
returns-else-q-e c =
    let q = c in
    let a = q.args in
    let h : a.e.mark < (rule_at a.body.now a.r).interval.start =
    omega (arith, ap (λ (x : Rule). x.interval.start) q.rule_at-q.ensures) in
    (inl (h, refl), refl)
