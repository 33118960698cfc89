-- The numbers of the pairs at which something is needed: different pairs have different ones
-- (`usedBefore-apart`), below their count, and every number below it is that of one (`usedBefore-onto`).
use mathlib.Core.Path.{◌≡◌, refl, ap}
use mathlib.Core.Bool.{true, false}
use mathlib.Core.List.{List, [], ◌∷◌}
use Prim.Native.Nat.{ℕ, zero, suc, ◌+◌, ◌-◌, ◌≤◌, ◌<◌}
use native.Mathlib.Omega.{arith}
use lib.ListN.{length, get_or}
use Rattle.foundation.specs.Tests.{cases}
use Rattle.foundation.specs.BitMasks.{as_bit}
use Rattle.places.specs.ReachedNumbers.{used, used_before}

pub used_before-step : (l : List ℕ) (j : ℕ) → j < length l →
    used_before l (suc j) ≡ used_before l j + as_bit (used (get_or l j 0))
unfolding used_before
used_before-step [] j h = absurd (omega arith)
used_before-step (x ∷ []) zero h = omega arith
used_before-step (x ∷ y ∷ l) zero h = omega arith
used_before-step (x ∷ l) (suc j) h = let i = used_before-step l j (omega arith) in omega arith

pub used_before_none : (l : List ℕ) → used_before l 0 ≡ 0
unfolding used_before
used_before_none [] = refl
used_before_none (x ∷ l) = refl

pub used_before-le : (l : List ℕ) (j : ℕ) → used_before l j ≤ j
unfolding used_before
used_before-le [] j = omega arith
used_before-le (x ∷ l) zero = omega arith
used_before-le (x ∷ l) (suc j) = cases (used x)
    (λ e. rw e (omega (arith, used_before-le l j)))
    (λ e. rw e (omega (arith, used_before-le l j)))

pub used_before_more : (l : List ℕ) (i d : ℕ) → i + d ≤ length l → used_before l i ≤ used_before l (i + d)
used_before_more l i zero h = let e : used_before l (i + 0) ≡ used_before l i = ap (used_before l)
    (omega arith) in omega arith
used_before_more l i (suc d) h =
    let s = used_before-step l (i + d) (omega arith) in
    let e : suc (i + d) ≡ i + suc d = omega arith in
    let f : used_before l (suc (i + d)) ≡ used_before l (i + suc d) = ap (used_before l) e in
    omega (arith, used_before_more l i d (omega arith))

-- a used one has a smaller number than those behind it
pub used_before-apart : (l : List ℕ) (i j : ℕ) → i < j → j ≤ length l → used (get_or l i 0) ≡ true →
    used_before l i < used_before l j
used_before-apart l i j h k e =
    let s = used_before-step l i (omega arith) in
    let c : as_bit (used (get_or l i 0)) ≡ 1 = rw e in
    let d : suc i + (j - suc i) ≡ j = omega arith in
    let m = used_before_more l (suc i) (j - suc i) (omega arith) in
    let f : used_before l (suc i + (j - suc i)) ≡ used_before l j = ap (used_before l) d in
    omega arith

-- m is the number of one
pub record NumberOf (l : List ℕ) (m : ℕ) : Type 0 where
  pub at : ℕ
  pub inside : at < length l
  pub needed : used (get_or l at 0) ≡ true
  pub number : used_before l at ≡ m

-- every number below their count is that of one
pub used_before-onto : (l : List ℕ) (m : ℕ) → m < used_before l (length l) → NumberOf l m
unfolding used_before
used_before-onto [] m h = absurd (omega arith)
used_before-onto (x ∷ l) m h = cases (used x)
    (λ e. first e m (rw e at h) (λ k q. used_before-onto l k q))
    (λ e. later e (used_before-onto l m (omega (arith, rw e at h))))
  where
    later : used x ≡ false → NumberOf l m → NumberOf (x ∷ l) m
    later e w = record {
      at = suc w.at;
      inside = omega arith;
      needed = w.needed;
      number = rw e (omega (arith, w.number));
    }

    first : used x ≡ true → (k : ℕ) → k < 1 + used_before l (length l) →
        ((i : ℕ) → i < used_before l (length l) → NumberOf l i) → NumberOf (x ∷ l) k
    first e zero h rest = record { at = 0; inside = omega arith; needed = e; number = refl }
    first e (suc k) h rest = let w = rest k (omega arith) in record {
      at = suc w.at;
      inside = omega arith;
      needed = w.needed;
      number = rw e (omega (arith, w.number));
    }
