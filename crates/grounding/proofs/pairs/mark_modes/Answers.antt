use native.Mathlib.Omega.{arith}
use mathlib.Core.Path.{◌≡◌, refl, ap, ◌∙◌}
use lib.ListN.{length}
use Rattle.words.proofs.SetBitLoops.{Turn, turn, finished}
use Rattle.sections.specs.Sections.{fields_of, broken_of}
use Rattle.grounding.proofs.Parts.{both-length}
use Rattle.grounding.proofs.StepRows.{row-length, modes_start, modes-turn, modes-end}
use Rattle.grounding.proofs.pairs.mark_modes.Goals as goal
use Rattle.grounding.proofs.pairs.mark_modes.Goals.{In-Some}

at : (c : In-Some) → Turn c.args.modes c.loop-m.yielded c.in-Some.m
at c = turn c.loop-m.m-iterator (cc) c.loop-m.yielded_by c.in-Some.ensures.steps

pub loop-m-init : goal.loop-m-init
loop-m-init c = (modes_start, refl)

pub mark_broken_at-requires : goal.mark_broken_at-requires
mark_broken_at-requires c =
    let t = at (goal.at.mark_broken_at-requires c).In-Some in
    let l = c.loop-m in
    let k = c.args.t.words in
    let w = c.args.work.now in
    let e : length (broken_of k l.work) ≡ length (broken_of k w) =
    row-length (λ p u v d. d.lengths) l.invariant.0.steps in
    let b : fields_of k l.work ≡ fields_of k w = l.invariant.1 in (
      rw (e, b, c.with_mode.ensures) (c.requires.0 c.in-Some.m t.low t.own),
      omega (arith, both-length k l.work w (ap length b) e, c.requires.1),
      c.requires.2,
      c.requires.3,
    )

pub loop-m-preserved : goal.loop-m-preserved
loop-m-preserved c =
    let l = c.loop-m in
    let g = c.mark_broken_at in (
      modes-turn (at (goal.at.loop-m-preserved c).In-Some) l.invariant.0
          (rw (l.invariant.1, c.with_mode.ensures) at g.ensures.0),
      g.ensures.1 ∙ l.invariant.1,
    )

pub shape_of-work : goal.shape_of-work
shape_of-work c =
    let a = c.args in
    let l = c.loop-m in
    both-length a.t.words l.work a.work.now (ap length l.invariant.1)
    (row-length (λ p u v d. d.lengths) l.invariant.0.steps)

pub returns : goal.returns
returns c =
    let l = c.loop-m in
    let e = finished l.m-iterator (cc) l.yielded_by c.in-None.ensures.steps in
    (modes-end (omega arith) e l.invariant.0, l.invariant.1)
