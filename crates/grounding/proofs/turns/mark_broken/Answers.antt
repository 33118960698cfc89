use borrow.Author.Rules.{rules}
use native.Mathlib.Omega.{arith}
use mathlib.Core.Path.{◌≡◌, refl, ap, ◌∙◌}
use mathlib.Core.Bool.{true}
use Prim.Native.Nat.{suc, ◌<◌}
use lib.ListN.{length}
use Rattle.foundation.specs.BitMasks.{bit}
use Rattle.words.proofs.SetBitLoops.{Turn, turn, finished, place_start, place_turn}
use Rattle.sections.specs.Sections.{active_of}
use Rattle.grounding.specs.RuleTurns.{prepared_in, words_for, fields_in, bits_in, SlicedIn}
use Rattle.grounding.specs.RuleTurns.{RuleMarked, none, then}
use Rattle.grounding.proofs.Parts.{both-length}
use Rattle.grounding.proofs.TurnRounds.{marked-length, marked_from}
use Rattle.grounding.proofs.turns.mark_broken.Goals as goal
use Rattle.grounding.proofs.turns.mark_broken.Goals.{In-Some}

at : (c : In-Some) → Turn c.args.rules c.loop-r.yielded c.in-Some.r
at c = turn c.loop-r.r-iterator (cc) c.loop-r.yielded_by c.in-Some.ensures.steps

pub loop-r-init : goal.loop-r-init
loop-r-init c =
    let a = c.args in
    let f = a.e.frame in
    let p = prepared_in a.body.now a.outline.now a.coordinates.now a.need.now
    a.numbers.now f in (
      place_start a.rules _ (λ n z w. marked_from p (active_of a.outline.now) (fields_in f a.work.now) a.e.last
          a.e.mark a.rules 0 n (omega arith) z),
      refl,
      refl,
    )

pub mark_rule-requires : goal.mark_rule-requires
mark_rule-requires c =
    let t = at (goal.at.mark_rule-requires c).In-Some in
    let l = c.loop-r in
    let s = c in
    let a = s.args in
    let f = a.e.frame in
    let w = a.work.now in
    let k = words_for f.fields f.width in
    let held : SlicedIn a.outline.now a.coordinates.now a.need.now a.numbers.now f
    l.work = record {
      outlined = s.requires.1.outlined;
      placed = s.requires.1.placed;
      numbered = s.requires.1.numbered;
      roomy = omega (arith, s.requires.1.roomy, both-length k l.work w (ap length l.invariant.2) l.invariant.1);
    } in (
      rw (l.invariant.2, l.invariant.1) (s.requires.0 c.in-Some.r t.own),
      held,
      s.requires.2,
      s.requires.3 c.in-Some.r t.own,
    )

pub loop-r-preserved : goal.loop-r-preserved
loop-r-preserved c =
    let t = at (goal.at.loop-r-preserved c).In-Some in
    let l = c.loop-r in
    let a = c.args in
    let r = c.in-Some.r in
    let f = a.e.frame in
    let i = l.invariant in
    let p = prepared_in a.body.now a.outline.now a.coordinates.now a.need.now
    a.numbers.now f in
    let active = active_of a.outline.now in
    let words = fields_in f a.work.now in
    let new = c.mark_rule.new.work in
    let m : RuleMarked p active words a.e.last a.e.mark r (bits_in f l.work) (bits_in f new) =
    rw i.2 at c.mark_rule.ensures.0 in (
      place_turn _ _ t i.0 (λ d n g z w k. d w (then r r (omega arith) t.low (λ j x y. absurd (omega arith)) t.own m
          (marked_from p active words a.e.last a.e.mark a.rules (suc r) n (omega arith)
          (λ j x y. z j (omega arith) y) k))),
      marked-length p active words a.e.last a.e.mark r m ∙ i.1,
      c.mark_rule.ensures.1 ∙ i.2,
    )

pub shape_of-work : goal.shape_of-work
shape_of-work c =
    let l = c.loop-r in
    let a = c.args in
    both-length (words_for a.e.frame.fields a.e.frame.width) l.work a.work.now
    (ap length l.invariant.2) l.invariant.1

pub returns : goal.returns
returns c =
    let l = c.loop-r in
    let a = c.args in (
      l.invariant.0 64 (finished l.r-iterator (cc) l.yielded_by c.in-None.ensures.steps)
          (bits_in a.e.frame l.work) (none (λ q x y. absurd (omega arith))),
      l.invariant.2,
    )
