use native.Mathlib.Omega.{arith}
use mathlib.Core.Path.{◌≡◌, refl, sym, ap, ◌∙◌}
use lib.ListN.{length}
use lib.Seq.{length-take-le}
use Rattle.words.proofs.SumFacts.{grown_none, grown_both}
use Rattle.sections.specs.Sections.{left_of, first_of, rights_of, numbered_of, fields_of, broken_of}
use Rattle.grounding.specs.RuleSteps.{Step, PairsReady, PairsRan}
use Rattle.grounding.proofs.Parts.{lent_of, lent_all, lent_length, both-length}
use Rattle.grounding.proofs.StepRows.{row-length, pairs_start, pairs-turn, pairs_end}
use Rattle.grounding.proofs.pairs.derive_pairs.Goals as goal

pub slice_bounds-number-end : goal.slice_bounds-number-end
slice_bounds-number-end c =
    let s = c in
    sym (length-take-le (length s.args.need.now) s.args.numbers.now
    (omega (arith, s.requires.2.numbered)))

pub slice_bounds-listed-end : goal.slice_bounds-listed-end
slice_bounds-listed-end c =
    let s = c in
    sym (lent_length (length s.args.need.now) s.args.numbers.now s.requires.2.numbered)

pub loop-n-init : goal.loop-n-init
loop-n-init c =
    let a = c.args in
    let size = length a.need.now in (
      omega arith,
      pairs_start a.t a.f (left_of a.outline.now) a.need.now (lent_of size a.numbers.now)
          a.range.from a.range.to (fields_of a.t.words a.work.now),
      grown_none (fields_of a.t.words a.work.now),
      refl,
    )

pub bounds-listed-n : goal.bounds-listed-n
bounds-listed-n c =
    let early = c in
    let s = early in
    let a = s.args in
    omega (
      arith,
      c.loop-n-test.true,
      s.requires.0.listed,
      ap length (lent_all (length a.need.now) a.numbers.now),
    )

pub overflow_cast-pair : goal.overflow_cast-pair
overflow_cast-pair c = omega (arith, c.pair_of_code-p.ensures.1)

pub overflow_cast-pair-in-loop-n : goal.overflow_cast-pair-in-loop-n
overflow_cast-pair-in-loop-n c =
    let s = c in
    let h = s.shared_slice_known-in-loop-n-1.given s.loop-n.n in
    omega (arith, c.pair_of_code-p.ensures.0)

pub standing_modes-modes-requires : goal.standing_modes-modes-requires
standing_modes-modes-requires c =
    let i = c in
    let early = i in
    let s = early in
    let e = c.pair_of_code-p.ensures in
    let a = s.args in
    let k = a.t.words in
    let size = length a.need.now in
    let p : PairsReady a.t a.f (left_of a.outline.now) a.need.now
    (lent_of size a.numbers.now) (numbered_of size a.numbers.now)
    (length (fields_of k a.work.now)) (length (broken_of k a.work.now)) a.range.from
    a.range.to =
    rw (lent_all size a.numbers.now) s.requires.0 in
    let d = p.low i.loop-n.n i.loop-n-test.true in (
      rw e.0 d.0,
      rw e.1 d.1,
      p.rule,
      p.sign,
      omega (arith, length-take-le 152 a.outline.now (omega (arith, s.requires.2.outlined))),
      rw (e.0, e.1) d.2,
    )

pub derive_modes-fresh-requires : goal.derive_modes-fresh-requires
derive_modes-fresh-requires c =
    let i = c in
    let x = c.pair_of_code-p.ensures in
    let l = i.loop-n in
    let early = i in
    let s = early in
    let a = s.args in
    let k = a.t.words in
    let w = a.work.now in
    let size = length a.need.now in
    let p : PairsReady a.t a.f (left_of a.outline.now) a.need.now
    (lent_of size a.numbers.now) (numbered_of size a.numbers.now) (length (fields_of k w))
    (length (broken_of k w)) a.range.from a.range.to =
    rw (lent_all size a.numbers.now) s.requires.0 in
    let e : length (fields_of k l.work) ≡ length (fields_of k w) =
    row-length (λ p u v d. d.given.lengths) l.invariant.1.steps in
    let b : broken_of k l.work ≡ broken_of k w = l.invariant.3 in (
      λ m h y.
          let u = rw (x.0, x.1) at (c.standing_modes-modes.ensures.0 m y) in
          rw (e, b, x.0, x.1) (p.reads l.n m l.invariant.0 i.loop-n-test.true
          record { object = u.0; subject = u.1; mode = u.2 }),
      omega (arith, both-length k l.work w e (ap length b), s.requires.2.roomy),
      rw e s.requires.1,
    )

pub loop-n-preserved : goal.loop-n-preserved
loop-n-preserved c =
    let h = c in
    let x = h.pair_of_code-p.ensures in
    let i = h in
    let l = i.loop-n in
    let early = i in
    let a = early.args in
    let size = length a.need.now in
    let g = c.derive_modes-fresh in
    let w = c.standing_modes-modes in
    let y = rw (x.0, x.1) at w.ensures in (
      omega arith,
      pairs-turn a.t a.f (left_of a.outline.now) a.need.now (lent_of size a.numbers.now)
          a.range.from a.range.to l.n w.result l.invariant.0 i.loop-n-test.true
          (λ m b. let u = y.0 m b in record { object = u.0; subject = u.1; mode = u.2 })
          (λ m u. y.1 m u.object u.subject u.mode) l.invariant.1
          (rw (l.invariant.3, x.0, x.1) at g.ensures.0),
      grown_both l.fresh g.result l.invariant.2 g.ensures.1,
      g.ensures.2 ∙ l.invariant.3,
    )

pub shape_of-work : goal.shape_of-work
shape_of-work c =
    let early = c in
    let a = early.args in
    let l = c.loop-n in
    both-length a.t.words l.work a.work.now
    (row-length (λ p u v d. d.given.lengths) l.invariant.1.steps) (ap length l.invariant.3)

pub returns : goal.returns
returns c =
    let early = c in
    let a = early.args in
    let k = a.t.words in
    let size = length a.need.now in
    let l = c.loop-n in
    let r : PairsRan a.t a.f (left_of a.outline.now) a.need.now
    (lent_of size a.numbers.now)
    (Step a.t a.f (numbered_of size a.numbers.now) (broken_of k a.work.now)
    (rights_of a.coordinates.now) (first_of a.outline.now)) a.range.from a.range.to
    (fields_of k a.work.now) (fields_of k l.work) =
    pairs_end a.t a.f (left_of a.outline.now) a.need.now (lent_of size a.numbers.now)
    l.n (omega (arith, c.loop-n-test.false)) l.invariant.1 in
    (rw (lent_all size a.numbers.now) at r, l.invariant.2, l.invariant.3)
