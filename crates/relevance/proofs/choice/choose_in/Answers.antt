use Rattle.std.proofs.Common.{◌≡◌, ◌≤◌, Bool, true, false, ◌&&◌, ◌||◌, refl, sym, ap, ◌∙◌, arith}
use Rattle.foundation.specs.Tests.{or_none}
use Rattle.foundation.specs.declared.Interval.{Interval}
use Rattle.foundation.specs.Intervals.{interval}
use Rattle.model.specs.declared.Authorization.{Authorization}
use Rattle.sections.specs.Sections.{subjects_of, objects_of}
use Rattle.relevance.specs.Forgotten.{during}
use Rattle.relevance.specs.Needed.{is_needed, is_chosen_by}
use Rattle.relevance.proofs.KeptNumbers.{chose_skip, chose-loop}
use Rattle.relevance.proofs.KeptNumbers.{charted, placed_at, chose_during, during_all}
use Rattle.relevance.proofs.choice.choose_in.Goals as goal
use Rattle.relevance.proofs.choice.choose_in.Goals.{then-asked-v, else-asked-v}

-- one that passes has an asked instant: where all of time is asked, each has
passing : (ever : Bool) (asked : Interval) (a : Authorization) → (ever ≡ true → asked ≡ interval 0 4294967295) →
    a.interval.start ≤ 4294967295 → ever || during asked.start asked.end a ≡ true →
    during asked.start asked.end a ≡ true
passing true asked a all h e = ap (λ (i : Interval). during i.start i.end a) (all refl) ∙ during_all a h
passing false asked a all h e = e

pub loop-i-init : goal.loop-i-init
loop-i-init g c = search chose-loop

pub is_needed-requires : goal.is_needed-requires
is_needed-requires g c =
    let r = c.authorization_at-a in
    let e = c.cell_of.ensures in
    let b = c.requires.0.0 in (
      placed_at b c.loop-i.i (omega arith) r.ensures,
      charted b c.args.x r.result.head c.cell_of.result e.0 e.1 e.2,
    )

-- one that has an asked instant is chosen if it is needed, and one that has none is not
pub loop-i-preserved : goal.loop-i-preserved
loop-i-preserved g c =
    let b = c.requires.0.0 in
    let a = c.args in
    let l = c.loop-i in
    let r = c.authorization_at-a in
    let test : Authorization → Bool =
    is_chosen_by a.coordinates.now a.asked a.x a.stride a.need.now in
    elim c.if-asked-v.branch [
      | then-asked-v w ↦ rw w.which-is (chose_during b l.i (omega arith) r.ensures a.asked a.x l.which l.n
          c.if-asked-v.n w.cell_of.result w.is_needed.result l.invariant
          (passing _ a.asked r.result c.requires.1 (omega (arith, r.type_inv)) w.if-asked-v.true)
          w.cell_of.ensures.0 w.is_needed.ensures (w.n-is ∙ w.counted-n.ensures))
      | else-asked-v w ↦ rw (w.which-is, w.n-is) (chose_skip test a.lines.now a.total a.which.now l.which l.n
          l.i l.invariant (omega arith)
          (ap test (sym r.ensures) ∙ ap (λ (d : Bool). d
          && is_needed (subjects_of a.coordinates.now) (objects_of a.coordinates.now) a.x
          a.stride a.need.now r.result) (or_none _ _ w.if-asked-v.false).1))
    ]
