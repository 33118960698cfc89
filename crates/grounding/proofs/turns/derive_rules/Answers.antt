use native.Mathlib.Omega.{arith}
use mathlib.Core.Path.{refl, ap, ◌∙◌}
use mathlib.Core.Bool.{true}
use lib.ListN.{length}
use Rattle.sections.specs.Sections.{active_of}
use Rattle.grounding.specs.RuleTurns.{prepared_in, words_for, fields_in, bits_in, SlicedIn}
use Rattle.grounding.specs.RuleTurns.{RuleRan, none, then}
use Rattle.sections.proofs.SectionWrites.{part_long}
use Rattle.grounding.proofs.Parts.{both-length}
use Rattle.grounding.proofs.TurnRounds.{ran_length, others, among}
use Rattle.grounding.proofs.turns.derive_rules.Goals as goal

pub next_ready-requires : goal.next_ready-requires
next_ready-requires c =
    let s = c in (
      c.loop-at.invariant.3,
      omega (arith, part_long 152 128 s.args.outline.now (omega (arith, s.requires.1.outlined))),
    )

pub loop-at-init : goal.loop-at-init
loop-at-init c = ((λ e w t. t), (λ q e. e), refl, omega arith, refl)

pub derive_rule-requires : goal.derive_rule-requires
derive_rule-requires c =
    let l = c.loop-at in
    let early = c in
    let s = early in
    let a = s.args in
    let w = a.work.now in
    let k = words_for a.f.fields a.f.width in
    let y = c.in-Some.ensures in
    let held : SlicedIn a.outline.now a.coordinates.now a.need.now a.numbers.now a.f
    l.work = record {
      outlined = s.requires.1.outlined;
      placed = s.requires.1.placed;
      numbered = s.requires.1.numbered;
      roomy = omega (arith, s.requires.1.roomy, both-length k l.work w l.invariant.2 (ap length l.invariant.4));
    } in (
      rw (l.invariant.2, l.invariant.4) (s.requires.0 c.in-Some.at.rule (l.invariant.1 c.in-Some.at.rule (y.ready.own y.there))),
      held,
    )

pub without_rule-rest-requires : goal.without_rule-rest-requires
without_rule-rest-requires c =
    let y = c.in-Some.ensures in
    (y.there, y.ready.own y.there)

pub loop-at-smaller : goal.loop-at-smaller
loop-at-smaller c = c.without_rule-rest.ensures.0

pub loop-at-preserved : goal.loop-at-preserved
loop-at-preserved c =
    let w = c.without_rule-rest in
    let d = c in
    let l = d.loop-at in
    let early = d in
    let a = early.args in
    let p = prepared_in a.body.now a.outline.now a.coordinates.now a.need.now
    a.numbers.now a.f in
    let i = l.invariant in
    let y = c.in-Some.ensures in
    let at = c.in-Some.at.rule in
    let out = w.ensures.1 in
    let g = d.derive_rule.ensures in
    let new = d.derive_rule.new.work in
    let r : RuleRan p (active_of a.outline.now) (bits_in a.f a.work.now) at
    (fields_in a.f l.work) (fields_in a.f new) = rw i.4 at g.0 in (
      (λ e v t. i.0 e v (then at (y.ready.own y.there) (y.ready.alone y.there)
          (others l.rest w.result at out)
          (among l.rest w.result at out) r t)),
      (λ q e. i.1 q (among l.rest w.result at out q e)),
      ran_length p (active_of a.outline.now) (bits_in a.f a.work.now) at r ∙ i.2,
      omega (arith, y.there),
      g.2 ∙ i.4,
    )

pub shape_of-work : goal.shape_of-work
shape_of-work c =
    let l = c.loop-at in
    let a = c.args in
    both-length (words_for a.f.fields a.f.width) l.work a.work.now l.invariant.2
    (ap length l.invariant.4)

pub returns : goal.returns
returns c =
    let l = c.loop-at in
    let a = c.args in
    (l.invariant.0 l.rest (fields_in a.f l.work) none, l.invariant.4, l.invariant.1)
