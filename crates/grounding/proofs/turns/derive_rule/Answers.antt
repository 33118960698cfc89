use borrow.Author.Rules.{rules}
use native.Mathlib.Omega.{arith}
use mathlib.Core.Path.{refl, sym, ap, ◌∙◌}
use mathlib.Core.Logic.{inl, inr}
use lib.ListN.{length}
use lib.Seq.{length-take-le}
use Rattle.words.proofs.SumFacts.{grown_none}
use Rattle.sections.specs.Sections.{left_of, first_of, rights_of, numbered_of, listed_of, fields_of, broken_of}
use Rattle.grounding.specs.declared.RuleTurn.{RuleTurn}
use Rattle.grounding.specs.RuleSteps.{Step}
use Rattle.grounding.specs.RuleTurns.{fields_in}
use Rattle.sections.proofs.SectionWrites.{in_part}
use Rattle.grounding.proofs.Parts.{both-length}
use Rattle.grounding.proofs.StepRows.{row-length}
use Rattle.grounding.proofs.TurnRounds.{ready_as, ran_as}
use Rattle.grounding.proofs.turns.derive_rule.Goals as goal

pub returns-then-outline-i-eq0 : goal.returns-then-outline-i-eq0
returns-then-outline-i-eq0 c =
    let s = c in
    let a = s.args in (
      inl (in_part 408 64 a.outline.now a.r s.requires.0.low ∙ c.if-outline-i-eq0.true, refl),
      grown_none (fields_in a.f a.work.now),
      refl,
    )

pub turn_of-t-requires : goal.turn_of-t-requires
turn_of-t-requires c =
    let s = c in
    let p = s.requires.0 in (
      p.low,
      p.there,
      p.rules,
      p.signs,
      p.size,
      p.start,
      p.ready.narrow,
      s.requires.1.outlined,
      s.requires.1.placed,
    )

pub slice_bounds-range_of-end : goal.slice_bounds-range_of-end
slice_bounds-range_of-end c =
    let early = c in
    let s = early in
    sym (length-take-le (length s.args.need.now) s.args.numbers.now
    (omega (arith, s.requires.1.numbered)))

pub derive_pairs-requires : goal.derive_pairs-requires
derive_pairs-requires c =
    let d = c in
    let s = d in
    let a = s.args in
    let size = length a.need.now in
    let q = ap (λ (t : RuleTurn). t.words) d.turn_of-t.ensures in (
      ready_as a.f (left_of a.outline.now) a.need.now (listed_of size a.numbers.now)
          (numbered_of size a.numbers.now) d.turn_of-t.ensures c.range_of-n.ensures
          a.work.now s.requires.0.pairs,
      rw q s.requires.0.ready,
      rw q s.requires.1,
    )

pub shape_of-work : goal.shape_of-work
shape_of-work c =
    let g = c in
    let d = g in
    let a = d.args in
    let new = g.derive_pairs.new.work in
    let e = g.derive_pairs.ensures in
    both-length d.turn_of-t.result.words new a.work.now
    (row-length (λ p u v s. s.given.lengths) e.0.steps) (ap length e.2)

pub returns : goal.returns
returns c =
    let g = c in
    let d = g in
    let a = d.args in
    let size = length a.need.now in
    let q = ap (λ (t : RuleTurn). t.words) d.turn_of-t.ensures in
    let new = g.derive_pairs.new.work in
    let e = g.derive_pairs.ensures in (
      inr (ran_as a.f (left_of a.outline.now) a.need.now (listed_of size a.numbers.now)
          (numbered_of size a.numbers.now) d.turn_of-t.ensures g.range_of-n.ensures
          (λ t. Step t a.f (numbered_of size a.numbers.now) (broken_of t.words a.work.now)
          (rights_of a.coordinates.now) (first_of a.outline.now))
          (λ k. fields_of k a.work.now) (λ k. fields_of k new) e.0),
      rw q at e.1,
      rw q at e.2,
    )
