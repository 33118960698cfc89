-- The maximal intervals of a stretch: taken one after the other (`to-next`, `to_none`), and of a stretch with
-- another one taken out (`to-parts`).
use mathlib.Core.Path.{◌≡◌, sym, ap, ◌∙◌}
use Prim.Native.Nat.{ℕ, suc, ◌+◌, ◌-◌, ◌≤◌, ◌<◌, min, max}
use native.Mathlib.Omega.{arith}
use mathlib.Core.Bool.{Bool, true, false, not, ◌&&◌, ◌||◌, false≢true}
use mathlib.Core.List.{List, [], ◌∷◌, ◌++◌, append-nil}
use lib.Dec.{leb, ltb}
use Rattle.foundation.specs.Tests.{cases, le-true, le-false, true-le, false-le, not-true, not-false, and-true}
use Rattle.foundation.specs.Tests.{and_intro, and-false, and_assoc, or_and, and_yes}
use Rattle.foundation.specs.declared.Interval.{Interval}
use Rattle.foundation.specs.Intervals.{interval, in_interval, in_interval_in, in_interval-above, covered}
use Rattle.foundation.specs.Intervals.{Separate, separate_weaken, unique, maximal_from_no}
use Rattle.foundation.specs.Intervals.{maximal_from_separate, maximal_from-covered, within, within_in}
use Rattle.foundation.specs.Intervals.{within-above, maximal, maximal_separate, maximal_covered}
use Rattle.laws.specs.Refinement.{separate_append, covered_append}
use Rattle.cover.specs.First.{first}
use Rattle.cover.proofs.FirstFacts.{First, first_of}
use Rattle.pieces.specs.Stretches.{in_stretch, maximal_to}

pub in_stretch_lem : (a b t : ℕ) → a ≤ t → t < b → in_stretch a b t ≡ true
in_stretch_lem a b t h k = and_intro (leb a t) (ltb t b) (le-true a t h) (le-true (suc t) b k)

pub below-stretch : (a b t : ℕ) → t < a → in_stretch a b t ≡ false
below-stretch a b t h = rw (le-false a t h)

pub behind_stretch : (a b t : ℕ) → b ≤ t → in_stretch a b t ≡ false
behind_stretch a b t h = rw (le-false (suc t) b (omega arith)) (and-false (leb a t))

-- what a test of a stretch says
pub stretch-true : (a b t : ℕ) → in_stretch a b t ≡ true → (a ≤ t) × (t < b)
stretch-true a b t e = let p = and-true (leb a t) (ltb t b) e in
    (true-le a t p.0, true-le (suc t) b p.1)

-- ---- what they are

pub to_separate : (a b : ℕ) (f : ℕ → Bool) → Separate a (maximal_to a b f)
unfolding maximal_to
to_separate a b f = maximal_from_separate f (b - a) a

pub to-covered : (a b : ℕ) (f : ℕ → Bool) (t : ℕ) → covered (maximal_to a b f) t ≡ in_stretch a b t && f t
unfolding maximal_to
to-covered a b f t = maximal_from-covered f (b - a) a t ∙ ap (λ (x : Bool). x && f t) window
  where
    window : within a (b - a) t ≡ in_stretch a b t
    window = cases (leb a t)
        (λ p. let h = true-le a t p in cases (ltb t b)
        (λ q. let k = true-le (suc t) b q in rw (within_in a (b - a) t h (omega arith), p, q))
        (λ q. let k = false-le (suc t) b q in rw (within-above a (b - a) t (omega arith), p, q)))
        (λ p. rw p)

pub to_unique : (a b : ℕ) (f : ℕ → Bool) (k : ℕ) (rs : List Interval) → Separate k rs →
    ((t : ℕ) → covered rs t ≡ in_stretch a b t && f t) → rs ≡ maximal_to a b f
to_unique a b f k rs p h =
    unique rs (maximal_to a b f) k a p (to_separate a b f) (λ t. h t ∙ sym (to-covered a b f t))

-- those of an interval
pub interval-to : (a e : ℕ) (f : ℕ → Bool) → maximal a e f ≡ maximal_to a (e + 1) f
interval-to a e f = to_unique a (e + 1) f a (maximal a e f) (maximal_separate a e f)
    (λ t. maximal_covered a e f t ∙ ap (λ (x : Bool). x && f t) (window t))
  where
    window : (t : ℕ) → in_interval (interval a e) t ≡ in_stretch a (e + 1) t
    window t = cases (leb t e)
        (λ q. let k = true-le t e q in rw (q, le-true (suc t) (e + 1) (omega arith)))
        (λ q. let k = false-le t e q in rw (q, le-false (suc t) (e + 1) (omega arith)))

-- tests that agree there
pub to_same : (a b : ℕ) (f g : ℕ → Bool) → ((t : ℕ) → a ≤ t → t < b → f t ≡ g t) →
    maximal_to a b f ≡ maximal_to a b g
to_same a b f g h = to_unique a b g a (maximal_to a b f) (to_separate a b f)
    (λ t. to-covered a b f t ∙ cases (in_stretch a b t)
    (λ e. let p = stretch-true a b t e in rw (e, h t p.0 p.1))
    (λ e. rw e))

-- none
pub to_empty : (a b : ℕ) (f : ℕ → Bool) → ((t : ℕ) → a ≤ t → t < b → f t ≡ false) → maximal_to a b f ≡ []
to_empty a b f h = sym (to_unique a b f a [] tt (λ t. sym (cases (in_stretch a b t)
    (λ e. let p = stretch-true a b t e in rw (e, h t p.0 p.1))
    (λ e. rw e))))

pub to_past : (a b : ℕ) (f : ℕ → Bool) → b ≤ a → maximal_to a b f ≡ []
to_past a b f h = to_empty a b f (λ t p q. absurd (omega arith))

pub to_none : (a b : ℕ) (f : ℕ → Bool) → a ≤ b → b ≤ first f a b → maximal_to a b f ≡ []
to_none a b f k h = to_empty a b f (λ t p q. (first_of f a b k).before t p (omega arith))

-- ---- the first one, and the others

-- f holds from `on` to before `off`, and not before
module _ (a b : ℕ) (f : ℕ → Bool) (on off : ℕ) (F : First f a b on) (k : on < b)
    (G : First (λ t. not (f t)) on b off) where
  pub on_off : on < off
  on_off = cases (ltb on off)
      (λ e. true-le (suc on) off e)
      (λ e. let y = false-le (suc on) off e in let g = G.low in let z : off ≡ on = omega arith in
      let n : f on ≡ false = not-true (f on) (ap (λ (u : ℕ). not (f u)) (sym z) ∙ G.here (omega arith)) in
      absurd (false≢true (sym n ∙ F.here k)))

  others_separate : Separate (suc off) (maximal_to off b f)
  unfolding maximal_to
  others_separate = cases (ltb off b)
      (λ e. let y = true-le (suc off) b e in step y (not-true (f off) (G.here y)))
      (λ e. let y = false-le (suc off) b e in rw (to_past off b f (omega arith)) tt)
    where
      step : off < b → f off ≡ false → Separate (suc off) (maximal_to off b f)
      step y z =
          let n : b - off ≡ suc (b - suc off) = omega arith in
          rw (n, maximal_from_no f off (b - suc off) z) (maximal_from_separate f (b - suc off) (suc off))

  pub to_next : maximal_to a b f ≡ interval on (off - 1) ∷ maximal_to off b f
  to_next =
      let m = on_off in
      let e : suc (suc (off - 1)) ≡ suc off = omega arith in
      sym (to_unique a b f a (interval on (off - 1) ∷ maximal_to off b f)
      (F.low, omega arith, rw e others_separate)
      (λ t. rw (to-covered off b f t) (cases (ltb t on)
      (λ q. low t (true-le (suc t) on q))
      (λ q. let y = false-le (suc t) on q in cases (ltb t off)
      (λ z. mid t (omega arith) (true-le (suc t) off z))
      (λ z. let x = false-le (suc t) off z in high t (omega arith))))))
    where
      low : (t : ℕ) → t < on →
          in_interval (interval on (off - 1)) t || (in_stretch off b t && f t) ≡ in_stretch a b t && f t
      low t y = let m = on_off in rw (below-stretch off b t (omega arith), le-false on t y)
          (sym (cases (leb a t)
          (λ p. rw (F.before t (true-le a t p) y) (and-false (in_stretch a b t)))
          (λ p. rw p)))

      mid : (t : ℕ) → on ≤ t → t < off →
          in_interval (interval on (off - 1)) t || (in_stretch off b t && f t) ≡ in_stretch a b t && f t
      mid t y x =
          let lo = F.low in let hi = G.high in
          rw (
            in_interval_in (interval on (off - 1)) t y (omega arith),
            in_stretch_lem a b t (omega arith)
                (omega arith),
          )
          (sym (not-false (f t) (G.before t y x)))

      high : (t : ℕ) → off ≤ t →
          in_interval (interval on (off - 1)) t || (in_stretch off b t && f t) ≡ in_stretch a b t && f t
      high t x =
          let lo = F.low in let m = on_off in
          rw (
            in_interval-above (interval on (off - 1)) t (omega arith),
            le-true off t x,
            le-true a t (omega arith),
          )

-- ---- the instants x to y taken out

module _ (s e x y : ℕ) (f : ℕ → Bool) (gap : y < e → x < y) where
  -- an instant stands in one of the two parts
  parts_in : (t : ℕ) → in_stretch s (min e x) t || in_stretch (max s y) e t ≡ in_stretch s e t
      && not (in_stretch x y t)
  parts_in t = cases (ltb t x)
      (λ p. let p' = true-le (suc t) x p in rw (below-stretch x y t p') (early p'))
      (λ p. let p' = false-le (suc t) x p in rw (behind_stretch s (min e x) t (omega arith)) (cases (ltb t y)
      (λ q. let q' = true-le (suc t) y q in
      rw (in_stretch_lem x y t (omega arith) q', below-stretch (max s y) e t (omega arith))
      (sym (and-false (in_stretch s e t))))
      (λ q. let q' = false-le (suc t) y q in rw (behind_stretch x y t (omega arith)) (late (omega arith)))))
    where
      -- before x there is the first part alone
      early : t < x → in_stretch s (min e x) t || in_stretch (max s y) e t ≡ in_stretch s e t && true
      early p = cases (leb s t)
          (λ u. let u' = true-le s t u in cases (ltb t e)
          (λ v. let v' = true-le (suc t) e v in
          rw (in_stretch_lem s (min e x) t u' (omega arith), in_stretch_lem s e t u' v'))
          (λ v. let v' = false-le (suc t) e v in
          rw (
            behind_stretch s (min e x) t (omega arith),
            behind_stretch (max s y) e t (omega arith),
            behind_stretch s e t (omega arith),
          )))
          (λ u. let u' = false-le s t u in
          rw (
            below-stretch s (min e x) t u',
            below-stretch (max s y) e t (omega arith),
            below-stretch s e t u',
          ))

      -- behind y the second
      late : y ≤ t → false || in_stretch (max s y) e t ≡ in_stretch s e t && true
      late q = cases (leb s t)
          (λ u. let u' = true-le s t u in rw (u, le-true (max s y) t (omega arith)) (sym (and_yes (ltb t e))))
          (λ u. let u' = false-le s t u in rw (
            below-stretch s e t u',
            below-stretch (max s y) e t (omega arith),
          ))

  parts_separate : Separate s (maximal_to s (min e x) f ++ maximal_to (max s y) e f)
  parts_separate = cases (leb e y)
      (λ p. let p' = true-le e y p in
      rw (to_past (max s y) e f (omega arith), append-nil (maximal_to s (min e x) f))
      (to_separate s (min e x) f))
      (λ p. let p' = gap (false-le e y p) in cases (leb x s)
      (λ q. let q' = true-le x s q in
      rw (to_past s (min e x) f (omega arith))
      (separate_weaken (maximal_to (max s y) e f) s (max s y) (omega arith) (to_separate (max s y) e f)))
      (λ q. let q' = false-le x s q in
      separate_append (maximal_to s (min e x) f) (maximal_to (max s y) e f) s (x - 1)
      (to_separate s (min e x) f)
      (λ t c. let r = first_part t c in omega arith) (omega arith)
      (separate_weaken (maximal_to (max s y) e f) (suc (suc (x - 1))) (max s y) (omega arith)
      (to_separate (max s y) e f))))
    where
      first_part : (t : ℕ) → covered (maximal_to s (min e x) f) t ≡ true → t < x
      first_part t c =
          let r = stretch-true s (min e x) t
          (and-true (in_stretch s (min e x) t) (f t) (sym (to-covered s (min e x) f t) ∙ c)).0 in
          omega arith

  -- what is left of the intervals is what the two parts have
  pub to-parts : maximal_to s (min e x) f ++ maximal_to (max s y) e f
      ≡ maximal_to s e (λ t. not (in_stretch x y t) && f t)
  to-parts = to_unique s e (λ t. not (in_stretch x y t) && f t) s
      (maximal_to s (min e x) f ++ maximal_to (max s y) e f)
      parts_separate
      (λ t. covered_append (maximal_to s (min e x) f) (maximal_to (max s y) e f) t
      ∙ rw (to-covered s (min e x) f t, to-covered (max s y) e f t)
      (or_and (in_stretch s (min e x) t) (in_stretch (max s y) e t) (f t)
      ∙ ap (λ (b : Bool). b && f t) (parts_in t)
      ∙ and_assoc (in_stretch s e t) (not (in_stretch x y t)) (f t)))
