-- Maximal intervals found from left to right: instants passed over where the test fails (`maximal-skip`), and
-- one interval where it holds up to an instant where it fails, or to the end (`maximal-run`).
use Rattle.std.specs.Prelude.{◌≡◌, Bool, true, false, ◌&&◌, List, [], ◌∷◌, ℕ, suc, ◌-◌, ◌≤◌, ◌<◌, leb}
use Rattle.std.proofs.Common.{sym, ◌∙◌, subst, arith}
use Rattle.foundation.specs.declared.Interval.{Interval}
use Rattle.foundation.specs.Tests.{cases, le-true, true-le, false-le, and-false}
use Rattle.foundation.specs.Intervals.{interval, in_interval, in_interval_in, in_interval-above, Separate}
use Rattle.foundation.specs.Intervals.{covered}
use Rattle.foundation.specs.Intervals.{maximal, maximal_separate, maximal_covered, maximal_unique}

-- behind the end there is nothing
pub maximal_past : (a e : ℕ) (f : ℕ → Bool) → e < a → maximal a e f ≡ []
maximal_past a e f h = sym (maximal_unique a e f a [] tt (λ t. sym (empty t)))
  where
    empty : (t : ℕ) → in_interval (interval a e) t && f t ≡ false
    empty t = cases (leb a t)
        (λ p. let l = true-le a t p in rw (in_interval-above (interval a e) t (omega arith)))
        (λ p. rw p)

-- instants where f fails are passed over
pub maximal_skip : (a m e : ℕ) (f : ℕ → Bool) → a ≤ m → ((t : ℕ) → a ≤ t → t < m → f t ≡ false) →
    maximal a e f ≡ maximal m e f
maximal_skip a m e f h fails = sym (maximal_unique a e f m (maximal m e f) (maximal_separate m e f)
    (λ t. maximal_covered m e f t ∙ same t))
  where
    same : (t : ℕ) → in_interval (interval m e) t && f t ≡ in_interval (interval a e) t && f t
    same t = cases (leb m t)
        (λ p. let l = true-le m t p in rw (p, le-true a t (omega arith)))
        (λ p. let l = false-le m t p in cases (leb a t)
        (λ q. rw (p, fails t (true-le a t q) l, and-false (in_interval (interval a e) t)))
        (λ q. rw (p, q)))

-- where f holds from a on, up to m, and fails at m or m is behind the end, that is the first interval
pub maximal_run : (a m e : ℕ) (f : ℕ → Bool) → a < m → m ≤ suc e → ((t : ℕ) → a ≤ t → t < m → f t ≡ true) →
    (m ≤ e → f m ≡ false) → maximal a e f ≡ interval a (m - 1) ∷ maximal m e f
maximal_run a m e f h l all stop =
    sym (maximal_unique a e f a (interval a (m - 1) ∷ maximal m e f)
    (omega arith, omega arith, subst (λ (k : ℕ). Separate k (maximal m e f)) back apart) same)
  where
    -- what follows begins behind m
    further : maximal m e f ≡ maximal (suc m) e f
    further = cases (leb m e)
        (λ p. let q = true-le m e p in
        maximal_skip m (suc m) e f (omega arith)
        (λ t x y. let z : t ≡ m = omega arith in subst (λ (u : ℕ). f u ≡ false) (sym z) (stop q)))
        (λ p. let q = false-le m e p in maximal_past m e f q ∙ sym (maximal_past (suc m) e f (omega arith)))

    apart : Separate (suc m) (maximal m e f)
    apart = subst (λ (rs : List Interval). Separate (suc m) rs) (sym further) (maximal_separate (suc m) e f)

    back : suc m ≡ suc (suc (m - 1))
    back = omega arith

    same : (t : ℕ) → covered (interval a (m - 1) ∷ maximal m e f) t ≡ in_interval (interval a e) t && f t
    same t = cases (leb m t)
        (λ p. let q = true-le m t p in
        rw (
          in_interval-above (interval a (m - 1)) t (omega arith),
          maximal_covered m e f t,
          p,
          le-true a t (omega arith),
        ))
        (λ p. let q = false-le m t p in cases (leb a t)
        (λ r. let s = true-le a t r in
        rw (
          in_interval_in (interval a (m - 1)) t s (omega arith),
          in_interval_in (interval a e) t s (omega arith),
          all t s q,
        ))
        (λ r. rw (maximal_covered m e f t, p, r)))
