-- Authorizations that are passed over or forgotten: at the instants that are left nothing is lost
-- (`none-during`, `clear-during`, `clear-left`).
use mathlib.Core.Path.{◌≡◌, refl, ap}
use mathlib.Core.Bool.{Bool, true, false, not, ◌&&◌}
use mathlib.Core.Logic.{◌⊎◌, inl, inr, ⊎_elim}
use mathlib.Core.List.{List, [], ◌∷◌, ◌++◌}
use Prim.Native.Nat.{ℕ, suc, ◌≤◌, ◌<◌}
use native.Mathlib.Omega.{arith}
use lib.Dec.{leb, ltb}
use Rattle.foundation.specs.Tests.{cases, le-false, true-le, false-le, and-false}
use Rattle.foundation.specs.Lists.{Mem, keep_if, kept}
use Rattle.foundation.specs.Intervals.{in_interval, in_interval-above}
use Rattle.foundation.specs.Marks.{clear}
use Rattle.model.specs.declared.Authorization.{Authorization}
use Rattle.model.specs.Means.{marks_of}
use Rattle.model.specs.Soundness.{starts_first}
use Rattle.relevance.specs.Chosen.{Picks}
use Rattle.relevance.specs.Forgotten.{ends_from, during, Forgets}

-- the numbers that are left lie in the bytes as before
pub forgets_picks : (s : List ℕ) (n t : ℕ) (entry exit : List ℕ) (r : ℕ) → Picks s entry n →
    Forgets s n t entry exit r → Picks s exit r
forgets_picks s n t entry exit r p f = record {
  room = omega (arith, p.room, f.few, f.same_length);
  inside = λ j h. let w = f.old j (omega (arith, f.few)) in omega (arith, p.inside w.0 w.1, w.2);
}

-- no interval starts behind its end, as in a sound base: the start of one that did could lie among the
-- instants that are left
abbrev pub Ordered : List Authorization → Type 0
Ordered xs = (a : Authorization) → Mem a xs → starts_first a.interval ≡ true

-- what is kept of intervals in order is in order
pub ordered_kept : (p : Authorization → Bool) (xs : List Authorization) → Ordered xs → Ordered (keep_if p xs)
ordered_kept p xs o a m = o a (kept p xs a m).0

module _ (u v : ℕ) where
  -- a mark does not lie behind u and up to v
  abbrev NotBetween : ℕ → Type 0
  NotBetween m = (m ≤ u) ⊎ (v < m)

  outside : (m : ℕ) → NotBetween m → ltb u m && leb m v ≡ false
  outside m (inl h) = rw (le-false (suc u) m (omega arith))
  outside m (inr h) = rw (le-false m v h) (and-false (ltb u m))

  -- what has no marks there may be left out
  clear_kept : (p : Authorization → Bool) (xs : List Authorization) →
      ((a : Authorization) → Mem a xs → p a ≡ false →
      NotBetween a.interval.start × NotBetween (suc a.interval.end)) →
      (ys : List ℕ) → clear (marks_of (keep_if p xs) ++ ys) u v ≡ clear (marks_of xs ++ ys) u v
  clear_kept p [] o ys = refl
  clear_kept p (a ∷ xs) o ys =
      let i = clear_kept p xs (λ b m. o b (inr m)) ys in
      let s = a.interval.start in
      let n = suc a.interval.end in
      cases (p a)
      (λ e. rw e (ap (λ (b : Bool). not (ltb u s && leb s v) && (not (ltb u n && leb n v) && b)) i))
      (λ e. let w = o a (inl refl) e in rw (e, outside s w.0, outside n w.1) i)

-- ---- from `from` to `to`

module _ (from to : ℕ) where
  not-during : (a : Authorization) → during from to a ≡ false →
      (a.interval.end < from) ⊎ (to < a.interval.start)
  not-during a e = cases (leb from a.interval.end)
      (λ y. let z : leb a.interval.start to ≡ false = rw y at e in
      inr (false-le a.interval.start to z))
      (λ y. inl (false-le from a.interval.end y))

  -- what is passed over has none of the instants
  pub none_during : (a : Authorization) → during from to a ≡ false → (t : ℕ) → from ≤ t → t ≤ to →
      in_interval a.interval t ≡ false
  none_during a e t h k = ⊎_elim
      (λ l. in_interval-above a.interval t (omega arith))
      (λ l. rw (le-false a.interval.start t (omega arith)))
      (not-during a e)

  -- the same marks lie between two of them
  pub clear-during : (u v : ℕ) → from ≤ u → v ≤ to → (xs : List Authorization) → Ordered xs →
      (ys : List ℕ) → clear (marks_of (keep_if (during from to) xs) ++ ys) u v ≡ clear (marks_of xs ++ ys) u v
  clear-during u v h k xs o = clear_kept u v (during from to) xs (λ a m e.
      let l = true-le a.interval.start a.interval.end (o a m) in
      ⊎_elim (λ w. (inl (omega arith), inl (omega arith))) (λ w. (inr (omega arith), inr (omega arith)))
      (not-during a e))

-- ---- from t on

module _ (t u : ℕ) (from : t ≤ u) where
  pub clear_left : (xs : List Authorization) → Ordered xs → (ys : List ℕ) (v : ℕ) →
      clear (marks_of (keep_if (ends_from t) xs) ++ ys) u v ≡ clear (marks_of xs ++ ys) u v
  clear_left xs o ys v = clear_kept u v (ends_from t) xs (λ a m e.
      let l = true-le a.interval.start a.interval.end (o a m) in
      let g = false-le t a.interval.end e in
      (inl (omega arith), inl (omega arith))) ys
