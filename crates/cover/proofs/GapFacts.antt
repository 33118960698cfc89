-- What the first uncovered instant says in the model's words, of the gaps under a new authorization
-- (`gap_is`). A test holds at every instant exactly if the first that fails lies behind (`always-first`).
use mathlib.Core.Path.{◌≡◌, sym, ap, ◌∙◌, subst}
use Prim.Native.Nat.{ℕ, suc, ◌+◌, ◌≤◌, ◌<◌}
use native.Mathlib.Omega.{arith}
use mathlib.Core.Bool.{Bool, not, false≢true}
use mathlib.Core.List.{List}
use lib.Dec.{leb, ltb}
use Rattle.std.specs.Prelude.{Option}
use Rattle.foundation.specs.Tests.{cases, agree, not-true, not-false, le-true, true-le, false-le}
use Rattle.foundation.specs.declared.Interval.{Interval}
use Rattle.foundation.specs.Intervals.{in_interval_in, none?, always, always_all, all_always, always_cong}
use Rattle.model.specs.declared.Head.{Head}
use Rattle.model.specs.declared.Authorization.{Authorization}
use Rattle.model.specs.Support.{covered_for, gaps}
use Rattle.model.specs.Support.{Earliest}
use Rattle.model.proofs.SupportFacts.{earliest_gaps, earliest_only}
use Rattle.cover.specs.declared.Want.{Want}
use Rattle.cover.specs.First.{first}
use Rattle.cover.proofs.FirstFacts.{first_of, first_past}
use Rattle.cover.specs.Cover.{want_of, covered_by, uncovered, gap_in}
use Rattle.cover.proofs.CoverFacts.{covered_by_lem}
use Rattle.cover.specs.Gaps.{gap_of, GapIs, FirstGap}

-- ---- a test at every instant, and the first instant that fails

-- where there is a first below b, the stretch is not empty
not_past : (a b : ℕ) (g : ℕ → Bool) → first g a b < b → a ≤ b
not_past a b g k = cases (leb a b)
    (λ e. true-le a b e)
    (λ e. let l = false-le a b e in absurd (omega (arith, first_past g a b (omega arith))))

-- every instant from a to e passes exactly if the first that fails is behind e
module _ (a e : ℕ) (f : ℕ → Bool) where
  abbrev fails : ℕ
  fails = first (λ t. not (f t)) a (e + 1)

  pub always-first : always a e f ≡ leb (e + 1) (first (λ t. not (f t)) a (e + 1))
  always-first = agree (always a e f) (leb (e + 1) fails)
      (λ h. cases (leb (e + 1) fails)
      (λ z. z)
      (λ z. let k = false-le (e + 1) fails z in
      let r = first_of (λ t. not (f t)) a (e + 1) (not_past a (e + 1) (λ t. not (f t)) k) in
      absurd (false≢true (sym (not-true (f fails) (r.here k))
      ∙ always_all a e f h fails r.low (omega arith)))))
      (λ h. let k = true-le (e + 1) fails h in
      all_always a e f (λ t p q.
      not-false (f t) ((first_of (λ t. not (f t)) a (e + 1) (omega arith)).before t p (omega arith))))

-- ---- the gaps under a new authorization

-- none is left exactly if the first is behind the interval
gaps-first : (xs : List Authorization) (h : Head) (i : Interval) →
    none? (gaps xs h i) ≡ leb (i.end + 1) (gap_in (want_of h) xs i.start (i.end + 1))
unfolding gaps always
gaps-first xs h i =
    always_cong i.start i.end (covered_for xs h) (covered_by (want_of h) xs) (covered_by_lem xs h)
    ∙ always-first i.start i.end (covered_by (want_of h) xs)

module _ (xs : List Authorization) (h : Head) (i : Interval) where
  abbrev gap : ℕ
  gap = gap_in (want_of h) xs i.start (i.end + 1)

  earliest : gap < i.end + 1 → Earliest xs h i gap
  earliest k =
      let s : i.start ≤ i.end + 1 = not_past i.start (i.end + 1) (uncovered (want_of h) xs) k in
      let f = first_of (uncovered (want_of h) xs) i.start (i.end + 1) s in
      record {
        within = in_interval_in i gap f.low (omega arith);
        uncovered = covered_by_lem xs h gap ∙ not-true (covered_by (want_of h) xs gap) (f.here k);
        before = λ u p q. covered_by_lem xs h u ∙ not-false (covered_by (want_of h) xs u) (f.before u p q);
      }

  -- the first uncovered instant of i, or none, is what the model says
  pub gap_is : GapIs xs h i (gap_of gap (i.end + 1))
  gap_is = cases (ltb gap (i.end + 1))
      (λ e. let w = earliest (true-le (suc gap) (i.end + 1) e) in
      rw e (earliest_gaps xs h i gap w, earliest_only xs h i gap w))
      (λ e. let k = false-le (suc gap) (i.end + 1) e in
      rw e (gaps-first xs h i ∙ le-true (i.end + 1) gap (omega arith)))

-- so is the answer to what is wanted of h
pub first-gap_is : (w : Want) (xs : List Authorization) (i : Interval) (r : Option ℕ) →
    r ≡ gap_of (gap_in w xs i.start (i.end + 1)) (i.end + 1) → FirstGap w xs i r
first-gap_is w xs i r e = record {
  first = e;
  model = λ h q. subst (GapIs xs h i)
      (sym (e ∙ ap (λ (v : Want). gap_of (gap_in v xs i.start (i.end + 1)) (i.end + 1)) q))
      (gap_is xs h i);
}
