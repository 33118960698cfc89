use borrow.Author.Rules.{rules}
use native.Mathlib.Omega.{arith}
use mathlib.Core.Path.{◌≡◌, refl, sym, ap, ◌∙◌, subst}
use mathlib.Core.Bool.{Bool}
use mathlib.Core.List.{List}
use Prim.Native.Nat.{ℕ, ◌<◌}
use Rattle.foundation.specs.Marks.{next}
use Rattle.model.specs.declared.Authorization.{Authorization}
use Rattle.model.specs.declared.Rule.{Rule}
use Rattle.model.specs.Means.{marks}
use Rattle.encoding.specs.Format.{rules_in}
use Rattle.marks.specs.Least.{NextMark}
use Rattle.relevance.specs.Chosen.{picked, selected, marks_for}
use Rattle.relevance.proofs.PickedFacts.{marks_for_lem}
use Rattle.relevance.specs.Ahead.{NearAt, Standing}
use Rattle.relevance.specs.declared.ahead.Near.{Near}
use Rattle.scan.specs.Runs.{ScannedTo}
use Rattle.scan.proofs.RunFacts.{fewer, start, onward, held_open}
use Rattle.direct.specs.Among.{held_among}
use Rattle.direct.proofs.Choosing.{few, among_ahead, among-onward, among-few}
use Rattle.direct.proofs.intervals.walk_among.Goals as goal

-- what is promised of the next mark
abbrev On : (lines which : List ℕ) (n t m : ℕ) → Near → Type 0
On lines which n t m near =
    (m ≡ next t (marks_for lines which lines (few n)) 4294967296)
    × Standing (picked lines which n) (selected 0 (rules_in 0 lines)) m near

on_of : (lines which : List ℕ) (n t m : ℕ) (near : Near) →
    ((xs : List Authorization) (rs : List Rule) (t : ℕ) → NearAt xs rs t near →
    (m ≡ next t (marks xs rs) 4294967296) × NextMark xs rs t m × Standing xs rs m near) →
    NearAt (picked lines which n) (selected 0 (rules_in 0 lines)) t near → On lines which n t m near
on_of lines which n t m near f w =
    let e = f (picked lines which n) (selected 0 (rules_in 0 lines)) t w in
    (e.0 ∙ ap (λ (ms : List ℕ). next t ms 4294967296) (sym (marks_for_lem lines which lines (few n))), e.2)

pub loop-t-init : goal.loop-t-init
loop-t-init c =
    let a = c.args in (
      omega arith,
      start (held_among (picked a.lines.now a.which.now a.n)) 4294967295 a.list.now,
      refl,
      c.nothing_near-near.ensures (picked a.lines.now a.which.now a.n)
          (selected 0 (rules_in 0 a.lines.now)) 0,
    )

pub holds_among-requires : goal.holds_among-requires
holds_among-requires c = c.requires.0

pub note-w-requires : goal.note-w-requires
note-w-requires c =
    let k = c in
    let s = k in
    let a = s.args in
    let l = k.loop-t in
    let r = l.invariant.1 in
    let f : ℕ → Bool = held_among (picked a.lines.now a.which.now a.n) in
    λ i y. (
      held_open f 4294967295 a.list.now l.t l.w l.list r i,
      omega (
        arith,
        fewer f 4294967295 a.list.now l.t l.w l.list r i (omega (arith, l.invariant.0))
            (λ h. sym c.holds_among.ensures ∙ y),
        among-few a.lines.now a.which.now a.n 4294967295 s.requires.0.room,
        s.requires.1,
      ),
    )

pub near_at-near-requires : goal.near_at-near-requires
near_at-near-requires c =
    let k = c in
    let s = k in
    (record { picks = s.requires.0; bodies = omega arith; few = omega arith }, k.loop-t.invariant.3)

pub loop-t-smaller : goal.loop-t-smaller
loop-t-smaller c =
    let i = c in
    let l = i.loop-t in
    let a = i.args in
    let h : l.t < 4294967296 = omega (arith, i.loop-t-test.true) in
    let g = on_of a.lines.now a.which.now a.n l.t c.next_of-t.result
    c.near_at-near.result c.next_of-t.ensures c.near_at-near.ensures in
    omega (
      arith,
      among_ahead a.lines.now a.which.now a.lines.now a.n l.t c.next_of-t.result
          g.0 h,
    )

pub loop-t-preserved : goal.loop-t-preserved
loop-t-preserved c =
    let o = c in
    let i = o in
    let l = i.loop-t in
    let a = i.args in
    let m = c.next_of-t.result in
    let g = on_of a.lines.now a.which.now a.n l.t m c.near_at-near.result
    c.next_of-t.ensures c.near_at-near.ensures in
    let e = g.0 in
    let h : l.t < 4294967296 = omega (arith, i.loop-t-test.true) in
    let on = among_ahead a.lines.now a.which.now a.lines.now a.n l.t m e h in
    let f : ℕ → Bool = held_among (picked a.lines.now a.which.now a.n) in (
      on.1,
      onward f 4294967295 a.list.now l.t m o.note-w.result _ on.0
          (among-onward a.lines.now a.which.now a.lines.now a.n l.t m e)
          (o.note-w.ensures.by_index f 4294967295 a.list.now l.invariant.1 o.holds_among.ensures
          (omega (arith, h))),
      search rules,
      g.1,
    )

pub returns : goal.returns
returns c =
    let l = c.loop-t in
    let a = c.args in
    let e : l.t ≡ 4294967296 = omega (arith, l.invariant.0, c.loop-t-test.false) in
    subst (λ (t : ℕ). ScannedTo (held_among (picked a.lines.now a.which.now a.n)) 4294967295
    a.list.now t l.w l.list) e l.invariant.1
