use borrow.Author.Rules.{rules}
use native.Mathlib.Omega.{arith}
use native.Mathlib.Numerals.{add-one}
use mathlib.Core.Path.{◌≡◌, refl, sym, ap, ◌∙◌}
use mathlib.Core.Bool.{Bool}
use mathlib.Core.List.{List}
use mathlib.Core.Logic.{inl, inr}
use Prim.Native.Nat.{ℕ}
use lib.Bits.{and_le_l}
use lib.Dec.{eqb}
use lib.ListN.{length, get_or, take}
use Rattle.foundation.specs.Tests.{eq_true, true_eq}
use Rattle.foundation.specs.BitMasks.{bit}
use Rattle.sections.specs.Sections.{active_of, strata_of}
use Rattle.sections.proofs.SectionWrites.{part_long, front_same}
use Rattle.foundation.specs.BitMasks.{none_set}
use Rattle.grounding.specs.RuleTurns.{prepared_in, words_for, none, then}
use Rattle.engine.proofs.Sectioned.{part_alike, front_front, prepared_same}
use Rattle.engine.proofs.Sectioned.{passes, passed, less_other, less_in}
use Rattle.engine.proofs.window.derive_rest.Goals as goal
use Rattle.engine.proofs.window.derive_rest.Goals.{After-put_strata}

-- ---- once the strata are in the outline
module _ (t : After-put_strata) where
  abbrev s : After-put_strata
  s = t

  abbrev old : List ℕ
  old = s.args.outline.now

  abbrev new : List ℕ
  new = t.put_strata.new.outline

  long : length new ≡ length old
  long = t.put_strata.auto.outline

  same : take 472 new ≡ take 472 old
  same = t.put_strata.ensures.1

  prepared : prepared_in s.args.body.now new s.args.coordinates.now s.args.need.now
      s.args.numbers.now s.args.w.frame
      ≡ prepared_in s.args.body.now old s.args.coordinates.now s.args.need.now
      s.args.numbers.now s.args.w.frame
  prepared = prepared_same new old (front_front 472 408 new old (omega arith) same) s.args.body.now
      s.args.body.now s.args.coordinates.now s.args.need.now s.args.numbers.now
      s.args.numbers.now s.args.w.frame refl refl

  active : active_of new ≡ active_of old
  active = front_same 408 64 472 old new (omega arith) same

  strata_long : length (strata_of new) ≡ 64
  strata_long = part_long 472 64 new (omega (arith, long, s.requires.by_index.1.outlined))

pub put_strata-requires : goal.put_strata-requires
put_strata-requires c =
    let s = c in
    let p = s.requires.by_index_2 in
    (p.0, p.1, p.2, p.3, p.4, s.requires.by_index.1.outlined)

pub loop-k-init : goal.loop-k-init
loop-k-init c = ((λ w t. t), (λ q e. e), refl, refl)

pub slice_bounds-of_stratum-end : goal.slice_bounds-of_stratum-end
slice_bounds-of_stratum-end c =
    let r = (goal.at.slice_bounds-of_stratum-end c).After-put_strata in
    omega (arith, long r, (s r).requires.by_index.1.outlined)

pub of_stratum-now-requires : goal.of_stratum-now-requires
of_stratum-now-requires c = omega (arith, strata_long (goal.at.of_stratum-now-requires c).After-put_strata)

pub close-requires : goal.close-requires
close-requires c =
    let o = c in
    let t = o in
    let l = t.loop-k in
    let r = (goal.at.close-requires c).After-put_strata in
    let v = l.invariant in
    let f = (s r).args.w.frame in
    let k = words_for f.fields f.width in
    let held = (s r).requires.by_index.1 in (
      (λ q e. rw (
        prepared r,
        active r,
        part_alike k l.work (s r).args.work.now v.3,
        v.2,
      ) ((s r).requires.by_index.0 q (v.1 q (passed (λ i. eqb (get_or (strata_of (new r)) i 0) l.k) l.todo
          o.of_stratum-now.result o.of_stratum-now.ensures q e).0))),
      record {
        outlined = long r ∙ held.outlined;
        placed = held.placed;
        numbered = held.numbered;
        roomy = rw v.3 held.roomy;
      },
    )

pub overflow_sub-todo : goal.overflow_sub-todo
overflow_sub-todo c =
    let o = c in
    and_le_l o.loop-k.todo o.of_stratum-now.result

pub loop-k-preserved : goal.loop-k-preserved
loop-k-preserved c =
    let d = c in
    let o = d.of_stratum-now in
    let t = d in
    let l = t.loop-k in
    let i = l.invariant in
    let ran = d.close.ensures.0 in
    let strata : List ℕ = strata_of (new (goal.at.loop-k-preserved c).After-put_strata) in
    let level : ℕ → Bool = λ i. eqb (get_or strata i 0) l.k in (
      (λ w t. i.0 w (then
          (λ q h e f. passes level l.todo o.result o.ensures q h e
          (eq_true (get_or strata q 0) l.k f))
          (λ q e. let y = passed level l.todo o.result o.ensures q e in
          (y.0, true_eq (get_or strata q 0) l.k y.1))
          (less_other l.todo o.result) (less_in l.todo o.result) (rw i.2 at ran)
          (rw add-one at t))),
      (λ q e. i.1 q (less_in l.todo o.result q e)),
      d.close.ensures.1 ∙ i.2,
      search rules,
    )

-- none is left
pub returns-then-todo-eq0 : goal.returns-then-todo-eq0
returns-then-todo-eq0 c =
    let l = c.loop-k in
    let r = (goal.at.returns-then-todo-eq0 c).After-put_strata in
    let ran = l.invariant.0 _ (none (inl (λ q h e. none_set q (ap (bit q) (sym c.if-todo-eq0.true) ∙ e)))) in
    let known = r.put_strata.ensures in (
      record { strata = _; numbered = known.0; ran = rw (prepared r, active r) at ran },
      l.invariant.2,
      known.0,
      known.1,
    )

-- all strata had their turn
pub returns-after-loop-k : goal.returns-after-loop-k
returns-after-loop-k c =
    let l = c.loop-k in
    let r = (goal.at.returns-after-loop-k c).After-put_strata in
    let ran = l.invariant.0 _ (none (inr (omega arith))) in
    let known = r.put_strata.ensures in (
      record { strata = _; numbered = known.0; ran = rw (prepared r, active r) at ran },
      l.invariant.2,
      known.0,
      known.1,
    )
