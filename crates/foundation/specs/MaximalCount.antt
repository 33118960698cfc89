-- How many maximal intervals there are of a test that changes at marks only: twice their number is at most
-- the number of marks and two (`maximal-count`). For each interval's start, and the instant behind its end,
-- is 0, the instant behind the last, or a mark, and no two of them are the same.
use Rattle.std.specs.Prelude.{◌≡◌, refl, ◌≢◌, ℕ, zero, suc, ◌+◌, ◌*◌, ◌≤◌, ◌<◌, Bool, true, false, ◌&&◌, List, [], ◌∷◌, leb, eqb, length}
use Rattle.std.proofs.Common.{sym, ap, ◌∙◌, subst, inl, inr, ⊎_elim, arith, true≢false}
use Rattle.foundation.specs.declared.Interval.{Interval}
use Rattle.foundation.specs.Tests.{cases, le-true, le-false, true-le, false-le, true_eq, false_eq}
use Rattle.foundation.specs.Tests.{and-true}
use Rattle.foundation.specs.Lists.{Mem}
use Rattle.foundation.specs.Closure.{set_size, set_size-le, set_size-less}
use Rattle.foundation.specs.Intervals.{interval, in_interval, in_interval_in, in_interval-true, covered}
use Rattle.foundation.specs.Intervals.{Separate}
use Rattle.foundation.specs.Intervals.{none_below, head_in_lem, tail_in, maximal, maximal_separate}
use Rattle.foundation.specs.Intervals.{maximal_covered}
use Rattle.foundation.specs.Marks.{clear-part, rep, Steady}

-- fewer members of a list are at least b than at least k, if one of them is at least k and below b
passed : (ys : List ℕ) (k a b : ℕ) → k ≤ a → a < b → Mem a ys → set_size (leb b) ys < set_size (leb k) ys
passed ys k a b h l m = set_size-less (leb b) (leb k) ys
    (λ y n e. let g = true-le b y e in le-true k y (omega arith)) a m (le-false b a l) (le-true k a h)

module _ (f : ℕ → Bool) (ms : List ℕ) (c : Steady f ms) where
  -- where f changes is a mark
  turn : (t : ℕ) → f (suc t) ≢ f t → Mem (suc t) ms
  turn t d =
      let r = rep ms (suc t) in
      cases (leb r.0 t)
      (λ l. absurd (d (c t (suc t) (omega arith)
      (clear-part ms r.0 t (suc t) (suc t) (true-le r.0 t l) (omega arith) r.3))))
      (λ l. let g = false-le r.0 t l in
      let q : r.0 ≡ suc t = omega (arith, r.2) in
      ⊎_elim (λ p. absurd (omega arith)) (λ m. m) (subst (λ (a : ℕ). Mem a (0 ∷ ms)) q r.1))

  module _ (e : ℕ) where
    -- all that an interval's start and the instant behind its end can be
    abbrev bounds : List ℕ
    bounds = 0 ∷ suc e ∷ ms

    -- from the instant before k on, the intervals cover the instants up to e where f holds
    abbrev Exact : ℕ → List Interval → Type 0
    Exact k rs = (t : ℕ) → k ≤ suc t → covered rs t ≡ in_interval (interval 0 e) t && f t

    module _ (r : Interval) (rs : List Interval) (k : ℕ) (a : Separate k (r ∷ rs))
        (h : Exact k (r ∷ rs)) where
      inside : (t : ℕ) → r.start ≤ t → t ≤ r.end → (t ≤ e) × (f t ≡ true)
      inside t p q =
          let w = and-true (in_interval (interval 0 e) t) (f t)
          (sym (h t (omega arith)) ∙ head_in_lem r rs t p q) in
          ((in_interval-true (interval 0 e) t w.0).1, w.1)

      outside : (t : ℕ) → k ≤ suc t → t ≤ e → covered (r ∷ rs) t ≡ false → f t ≡ false
      outside t l g p = sym (rw (in_interval_in (interval 0 e) t (omega arith) g)) ∙ sym (h t l) ∙ p

      start-bound : Mem r.start bounds
      start-bound = go r.start refl
        where
          go : (s : ℕ) → r.start ≡ s → Mem s bounds
          go zero q = inl refl
          go (suc t) q =
              let i = inside (suc t) (omega arith) (omega arith) in
              let o = outside t (omega arith) (omega arith)
              (none_below (r ∷ rs) r.start t (omega arith, a.1, a.2) (omega arith)) in
              inr (inr (turn t (λ p. true≢false (sym i.1 ∙ p ∙ o))))

      end-bound : Mem (suc r.end) bounds
      end-bound = cases (eqb r.end e)
          (λ q. inr (inl (ap suc (true_eq r.end e q))))
          (λ q. let d = false_eq r.end e q in
          let i = inside r.end a.1 (omega arith) in
          let o = outside (suc r.end) (omega arith) (omega arith)
          (tail_in r rs (suc r.end) (omega arith)
          ∙ none_below rs (suc (suc r.end)) (suc r.end) a.2 (omega arith)) in
          inr (inr (turn r.end (λ p. true≢false (sym i.1 ∙ sym p ∙ o)))))

    -- each interval passes two of the bounds
    separate_count : (rs : List Interval) (k : ℕ) → Separate k rs → Exact k rs →
        2 * length rs ≤ set_size (leb k) bounds
    separate_count [] k a h = omega arith
    separate_count (r ∷ rs) k a h =
        let s = suc r.start in
        let u = suc r.end in
        omega (
          arith,
          passed bounds k r.start s a.0 (omega arith) (start-bound r rs k a h),
          passed bounds s u (suc u) (omega arith) (omega arith) (end-bound r rs k a h),
          separate_count rs (suc u) a.2 (λ t l. sym (tail_in r rs t (omega arith)) ∙ h t (omega arith)),
        )

pub maximal_count : (f : ℕ → Bool) (ms : List ℕ) → Steady f ms → (e : ℕ) →
    2 * length (maximal 0 e f) ≤ length ms + 2
maximal_count f ms c e = omega (
  arith,
  set_size-le (leb 0) (bounds f ms c e),
  separate_count f ms c e (maximal 0 e f) 0 (maximal_separate 0 e f) (λ t l. maximal_covered 0 e f t),
)
