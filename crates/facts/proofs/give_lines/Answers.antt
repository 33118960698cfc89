use native.Mathlib.Omega.{arith}
use mathlib.Core.Path.{◌≡◌}
use Prim.Native.Nat.{◌-◌}
use lib.ListN.{length, take, drop}
use Rattle.foundation.specs.Lists.{lent_rest}
use Rattle.relevance.specs.Chosen.{picked}
use Rattle.facts.specs.Facts.{setting_in, LineSteps}
use Rattle.facts.proofs.LineGiving.{picked-start, picked-turn}
use Rattle.facts.proofs.give_lines.Goals as goal

pub loop-i-init : goal.loop-i-init
loop-i-init c =
    let a = c.args in
    picked-start a.records.now a.which.now

pub bounds-which-i : goal.bounds-which-i
bounds-which-i c =
    let s = c in
    omega (arith, s.requires.0.picks.room)

pub overflow_mul-at : goal.overflow_mul-at
overflow_mul-at c =
    let l = c in
    let s = l in
    omega (arith, s.requires.0.picks.inside l.loop-i.i (omega arith))

pub authorization_at-a-requires : goal.authorization_at-a-requires
authorization_at-a-requires c =
    let l = c in
    let s = l in
    omega (arith, s.requires.0.picks.inside l.loop-i.i (omega arith))

pub give_line-requires : goal.give_line-requires
give_line-requires c =
    let r = c.authorization_at-a in
    let b = c in
    let l = b.loop-i in
    let s = b in
    let q = lent_rest s.args.w.offset s.args.records.now in (
      rw (l.auto.words, q) s.requires.0.usable,
      rw (r.ensures, c.from-at.ensures, q) (s.requires.0.places l.i (omega arith)),
      s.requires.2,
      s.requires.3,
    )

pub loop-i-preserved : goal.loop-i-preserved
loop-i-preserved c =
    let g = c in
    let r = g.authorization_at-a in
    let t = g.loop-i-test.true in
    let b = g in
    let l = b.loop-i in
    let s = b in
    let a = s.args in
    picked-turn a.records.now a.which.now l.i r.result
    (omega (arith, t, s.requires.0.picks.room)) (rw c.from-at.ensures at r.ensures) l.invariant g.give_line.ensures

pub returns : goal.returns
returns c =
    let l = c.loop-i in
    let a = c.args in
    let w = a.w in
    let records = a.records.now in
    let z : l.i ≡ w.chosen.authorizations = omega arith in
    let r : LineSteps (setting_in (take (length records - w.offset) (drop w.offset records)) w
    a.outline.now a.coordinates.now a.number.now a.marks.now)
    (picked records a.which.now w.chosen.authorizations) a.words.now l.words =
    rw (← z) l.invariant in
    (rw (lent_rest w.offset records) at r, l.auto.words)
