use native.Mathlib.Omega.{arith}
use mathlib.Core.Path.{◌≡◌, sym, ap, ◌∙◌}
use mathlib.Core.Bool.{false≢true}
use Prim.Native.Nat.{ℕ, ◌+◌, ◌<◌}
use lib.ListN.{get_or, set}
use lib.Seq.{get_or-set_same, get_or-set_other}
use Rattle.words.proofs.SetBitLoops.{Turn, turn, finished, place_start, place_turn, each_turn, each_end}
use Rattle.selection.specs.Selection.{position}
use Rattle.selection.proofs.SelectedLoop.{position-le, position-start, position-turn}
use Rattle.selection.proofs.ranking.spread_strata.Invariants.{Given}
use Rattle.selection.proofs.ranking.spread_strata.Goals as goal
use Rattle.selection.proofs.ranking.spread_strata.Goals.{In-Some}

at : (c : In-Some) → Turn c.args.needed c.loop-r.yielded c.in-Some.r
at c = turn c.loop-r.r-iterator (cc) c.loop-r.yielded_by c.in-Some.ensures.steps

place : (c : In-Some) → c.loop-r.k ≡ position c.args.needed c.in-Some.r
place c = c.loop-r.invariant.0 c.in-Some.r (at c).passed

low : (c : In-Some) → c.loop-r.k < 64
low c = omega (arith, place c, position-le c.args.needed c.in-Some.r, (at c).low)

pub loop-r-init : goal.loop-r-init
loop-r-init c = (
  place_start c.args.needed _ (λ n z. sym (position-start c.args.needed n z)),
  λ i e. absurd (false≢true e),
)

pub loop-r-preserved : goal.loop-r-preserved
loop-r-preserved c =
    let i = (goal.at.loop-r-preserved c).In-Some in
    let t = at i in
    let l = c.loop-r in
    let a = c.args in
    let r = c.in-Some.r in
    let ranks = a.ranks.now in
    let v = c.from.result in
    let given = Given ranks a.needed in (
      place_turn _ _ t l.invariant.0 (λ p n g z. ap (λ (k : ℕ). k + 1) p
          ∙ sym (position-turn a.needed r n g t.own z)),
      each_turn (given l.strata) (given (set l.strata r v)) t l.invariant.1
          (λ i h f. get_or-set_other l.strata r i v 0 (λ z. omega arith) ∙ f)
          (get_or-set_same l.strata r v 0 (omega (arith, t.low, l.auto.strata, c.requires))
          ∙ c.from.ensures ∙ ap (λ (k : ℕ). get_or ranks k 0) (place i)),
    )

pub returns : goal.returns
returns c =
    let l = c.loop-r in
    λ r h e. each_end _ (Given c.args.ranks.now c.args.needed l.strata) (omega arith)
    (finished l.r-iterator (cc) l.yielded_by c.in-None.ensures.steps) l.invariant.1 r e

pub bounds-strata-i : goal.bounds-strata-i
bounds-strata-i c =
    omega (arith, (at (goal.at.bounds-strata-i c).In-Some).low, c.loop-r.auto.strata, c.requires)

pub offset_bounds-ranks-k : goal.offset_bounds-ranks-k
offset_bounds-ranks-k c = omega (arith, low (goal.at.offset_bounds-ranks-k c).In-Some)

pub bounds-ranks-k : goal.bounds-ranks-k
bounds-ranks-k c = omega (arith, low (goal.at.bounds-ranks-k c).In-Some)

pub overflow_add-k : goal.overflow_add-k
overflow_add-k c = omega (arith, low (goal.at.overflow_add-k c).In-Some)
