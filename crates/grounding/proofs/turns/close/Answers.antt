use borrow.Author.Rules.{rules}
use native.Mathlib.Omega.{arith}
use mathlib.Core.Path.{◌≡◌, refl, sym, ap, ◌∙◌}
use mathlib.Core.Bool.{Bool, true, ◌&&◌, true≢false}
use Prim.Native.Nat.{ℕ}
use lib.Bits.{or_lt}
use lib.ListN.{length, get_or, get_or-replicate}
use Rattle.foundation.specs.Tests.{and-true, and_intro, or_intro_left, or_true_right, or_cases}
use Rattle.foundation.specs.BitMasks.{bit}
use Rattle.sections.specs.Sections.{feed_of, active_of}
use Rattle.foundation.specs.BitMasks.{none_set}
use Rattle.foundation.specs.BitLaws.{bit_or_lem}
use Rattle.masks.proofs.SameBits.{bits-le}
use Rattle.grounding.specs.RuleTurns.{prepared_in, words_for, fields_in, bits_in, SlicedIn}
use Rattle.grounding.specs.RuleTurns.{RuleRan, none, then}
use Rattle.sections.proofs.SectionWrites.{part_long}
use Rattle.grounding.proofs.Parts.{front_below, both-length}
use Rattle.grounding.proofs.TurnRounds.{ran_length, others, among, fewer_left, less-to_do}
use Rattle.grounding.proofs.turns.close.Goals as goal

pub transpose-requires : goal.transpose-requires
transpose-requires c =
    let s = c in (
      (λ r h. get_or-replicate 64 r 0 0 h),
      omega (arith, part_long 152 128 s.args.outline.now (omega (arith, s.requires.1.outlined))),
    )

pub loop-dirty-init : goal.loop-dirty-init
loop-dirty-init c = ((λ w t. t), (λ q e. e), refl, omega arith, c.transpose.ensures, refl)

pub next_dirty-at-requires : goal.next_dirty-at-requires
next_dirty-at-requires c = (omega arith, c.loop-dirty.invariant.3)

pub without_rule-dirty-requires : goal.without_rule-dirty-requires
without_rule-dirty-requires c = c.next_dirty-at.ensures

pub derive_rule-requires : goal.derive_rule-requires
derive_rule-requires c =
    let n = c.next_dirty-at in
    let l = c.loop-dirty in
    let early = c in
    let s = early in
    let a = s.args in
    let w = a.work.now in
    let k = words_for a.f.fields a.f.width in
    let held : SlicedIn a.outline.now a.coordinates.now a.need.now a.numbers.now a.f
    l.work = record {
      outlined = s.requires.1.outlined;
      placed = s.requires.1.placed;
      numbered = s.requires.1.numbered;
      roomy = omega (arith, s.requires.1.roomy, both-length k l.work w l.invariant.2 (ap length l.invariant.5));
    } in (
      rw (l.invariant.2, l.invariant.5)
          (s.requires.0 n.result.rule (l.invariant.1 n.result.rule n.ensures.1)),
      held,
    )

pub bounds-fed-r : goal.bounds-fed-r
bounds-fed-r c = c.next_dirty-at.ensures.0

pub loop-dirty-smaller-then-derive_rule : goal.loop-dirty-smaller-then-derive_rule
loop-dirty-smaller-then-derive_rule c =
    let d = c in
    let x = d.without_rule-dirty in
    let n = d.next_dirty-at in
    let b = d in
    let l = b.loop-dirty in
    let s = b in
    let a = s.args in
    let p = prepared_in a.body.now a.outline.now a.coordinates.now a.need.now
    a.numbers.now a.f in
    let rules : ℕ = a.rules in
    let e = d.derive_rule.ensures in
    let r = n.result.rule in
    let new = d.derive_rule.new.work in
    let m = bits-le _ rules (λ q y. (and-true (bit q rules)
    (bit r (get_or (feed_of a.outline.now) q 0) && bit r rules)
    (sym (l.invariant.4 r q n.ensures.0) ∙ y)).0) in
    fewer_left (fields_in a.f l.work) (fields_in a.f new) l.dirty _
    (ran_length p (active_of a.outline.now) (bits_in a.f l.work) r e.0)
    (e.1.more c.if-derive_rule.true)
    (front_below (words_for a.f.fields a.f.width) new 18446744073709551616 (omega arith)
    (λ i. omega (arith, c.slice_known-in-loop-dirty-1.given i)))
    (or_lt 64 x.result _ (omega arith) (omega (arith, m, s.ranges.rules)))

pub loop-dirty-preserved-then-derive_rule : goal.loop-dirty-preserved-then-derive_rule
loop-dirty-preserved-then-derive_rule c =
    let d = c in
    let x = d.without_rule-dirty in
    let n = d.next_dirty-at in
    let b = d in
    let l = b.loop-dirty in
    let s = b in
    let a = s.args in
    let p = prepared_in a.body.now a.outline.now a.coordinates.now a.need.now
    a.numbers.now a.f in
    let rules : ℕ = a.rules in
    let i = l.invariant in
    let e = d.derive_rule.ensures in
    let r = n.result.rule in
    let m : ℕ = get_or b.transpose.new.fed r 0 in
    let own = i.1 r n.ensures.1 in
    let precedes : ℕ → Bool = λ q. bit r (get_or (feed_of a.outline.now) q 0) in
    let fed : (q : ℕ) → bit q m ≡ bit q rules && (precedes q && bit r rules) =
    λ q. i.4 r q n.ensures.0 in
    let new = d.derive_rule.new.work in
    let ran : RuleRan p (active_of a.outline.now) (bits_in a.f a.work.now) r
    (fields_in a.f l.work) (fields_in a.f new) = rw i.5 at e.0 in (
      (λ w t. i.0 w (then r d.derive_rule.result n.ensures.1 own ran e.1
          (λ q o z. bit_or_lem x.result m q
          ∙ or_intro_left (bit q x.result) (bit q m)
          (others l.dirty x.result r x.ensures.1 q o z))
          (λ f q h o z. bit_or_lem x.result m q
          ∙ or_true_right (bit q x.result) (bit q m)
          (fed q ∙ and_intro (bit q rules) (precedes q && bit r rules) o
          (and_intro (precedes q) (bit r rules) z own))) t)),
      (λ q o. or_cases (bit q x.result) (bit q m) (sym (bit_or_lem x.result m q) ∙ o)
          (λ y. i.1 q (among l.dirty x.result r x.ensures.1 q y))
          (λ y. (and-true (bit q rules) (precedes q && bit r rules) (sym (fed q) ∙ y)).0)),
      ran_length p (active_of a.outline.now) (bits_in a.f a.work.now) r ran ∙ i.2,
      n.ensures.0,
      i.4,
      e.2 ∙ i.5,
    )

pub loop-dirty-smaller : goal.loop-dirty-smaller
loop-dirty-smaller c =
    let d = c in
    let x = d.without_rule-dirty in
    let b = d in
    let l = b.loop-dirty in
    let a = b.args in
    rw (d.derive_rule.ensures.1.same c.if-derive_rule.false)
    (less-to_do (fields_in a.f l.work) l.dirty x.result x.ensures.0)

pub loop-dirty-preserved : goal.loop-dirty-preserved
loop-dirty-preserved c =
    let d = c in
    let x = d.without_rule-dirty in
    let n = d.next_dirty-at in
    let b = d in
    let l = b.loop-dirty in
    let a = b.args in
    let p = prepared_in a.body.now a.outline.now a.coordinates.now a.need.now
    a.numbers.now a.f in
    let i = l.invariant in
    let e = d.derive_rule.ensures in
    let r = n.result.rule in
    let new = d.derive_rule.new.work in
    let ran : RuleRan p (active_of a.outline.now) (bits_in a.f a.work.now) r
    (fields_in a.f l.work) (fields_in a.f new) = rw i.5 at e.0 in (
      (λ w t. i.0 w (then r d.derive_rule.result n.ensures.1 (i.1 r n.ensures.1) ran e.1
          (others l.dirty x.result r x.ensures.1)
          (λ f q h o z. absurd (true≢false (sym f ∙ c.if-derive_rule.false))) t)),
      (λ q o. i.1 q (among l.dirty x.result r x.ensures.1 q o)),
      ran_length p (active_of a.outline.now) (bits_in a.f a.work.now) r ran ∙ i.2,
      n.ensures.0,
      i.4,
      e.2 ∙ i.5,
    )

pub shape_of-work : goal.shape_of-work
shape_of-work c =
    let l = c.loop-dirty in
    let a = c.args in
    both-length (words_for a.f.fields a.f.width) l.work a.work.now l.invariant.2
    (ap length l.invariant.5)

pub returns : goal.returns
returns c =
    let l = c.loop-dirty in
    let a = c.args in
    let z : l.dirty ≡ 0 = omega arith in (
      l.invariant.0 (fields_in a.f l.work) (none (λ q h e. none_set q (ap (bit q) (sym z) ∙ e))),
      l.invariant.5,
    )
