use native.Mathlib.Omega.{arith}
use mathlib.Core.Path.{◌≡◌, refl, ap, ◌∙◌}
use lib.ListN.{length}
use Rattle.words.proofs.SetBitLoops.{Turn, turn, finished}
use Rattle.words.proofs.SumFacts.{grown_none, grown_both}
use Rattle.sections.specs.Sections.{fields_of, broken_of}
use Rattle.grounding.proofs.Parts.{both-length}
use Rattle.grounding.proofs.StepRows.{row-length, modes_start, modes-turn, modes-end}
use Rattle.grounding.proofs.pairs.derive_modes.Goals as goal
use Rattle.grounding.proofs.pairs.derive_modes.Goals.{In-Some}

at : (c : In-Some) → Turn c.args.modes c.loop-m.yielded c.in-Some.m
at c = turn c.loop-m.m-iterator (cc) c.loop-m.yielded_by c.in-Some.ensures.steps

pub loop-m-init : goal.loop-m-init
loop-m-init c = (modes_start, grown_none (fields_of c.args.t.words c.args.work.now), refl)

pub derive_at-fresh-requires : goal.derive_at-fresh-requires
derive_at-fresh-requires c =
    let t = at (goal.at.derive_at-fresh-requires c).In-Some in
    let l = c.loop-m in
    let k = c.args.t.words in
    let w = c.args.work.now in
    let e : length (fields_of k l.work) ≡ length (fields_of k w) =
    row-length (λ p u v d. d.given.lengths) l.invariant.0.steps in
    let b : broken_of k l.work ≡ broken_of k w = l.invariant.2 in (
      rw (e, b, c.with_mode.ensures) (c.requires.0 c.in-Some.m t.low t.own),
      omega (arith, both-length k l.work w e (ap length b), c.requires.1),
      rw e c.requires.2,
    )

pub loop-m-preserved : goal.loop-m-preserved
loop-m-preserved c =
    let l = c.loop-m in
    let g = c.derive_at-fresh in (
      modes-turn (at (goal.at.loop-m-preserved c).In-Some) l.invariant.0
          (rw (l.invariant.2, c.with_mode.ensures) at g.ensures.0),
      grown_both l.fresh g.result l.invariant.1 g.ensures.1,
      g.ensures.2 ∙ l.invariant.2,
    )

pub shape_of-work : goal.shape_of-work
shape_of-work c =
    let a = c.args in
    let l = c.loop-m in
    both-length a.t.words l.work a.work.now
    (row-length (λ p u v d. d.given.lengths) l.invariant.0.steps) (ap length l.invariant.2)

pub returns : goal.returns
returns c =
    let l = c.loop-m in
    let e = finished l.m-iterator (cc) l.yielded_by c.in-None.ensures.steps in
    (modes-end (omega arith) e l.invariant.0, l.invariant.1, l.invariant.2)
