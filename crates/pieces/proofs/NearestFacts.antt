-- The first instant of a stretch that is covered, found in one pass over authorizations in any order
-- (`near_step`).
use mathlib.Core.Path.{◌≡◌}
use Prim.Native.Nat.{ℕ, suc, ◌≤◌, ◌<◌, max}
use native.Mathlib.Omega.{arith}
use mathlib.Core.Bool.{Bool, true, false, ◌&&◌}
use mathlib.Core.List.{List, ◌∷◌}
use lib.Dec.{leb, ltb}
use Rattle.foundation.specs.Tests.{cases, le-true, true-le, false-le, and-true, and_intro, or_true_right}
use Rattle.foundation.specs.Tests.{or_intro_left}
use Rattle.foundation.specs.Intervals.{in_interval, in_interval-true, in_interval_in}
use Rattle.model.specs.declared.Authorization.{Authorization}
use Rattle.cover.specs.declared.Want.{Want}
use Rattle.cover.specs.First.{first}
use Rattle.cover.proofs.FirstFacts.{first_is, first_of}
use Rattle.cover.specs.Cover.{wanted, covers, covered_by}
use Rattle.pieces.specs.Nearest.{nearer, near_of}

module _ (w : Want) (a d : ℕ) (x : Authorization) (h : a ≤ d) where
  abbrev start : ℕ
  start = max x.interval.start a

  -- what the test says
  nearer-true : nearer w a d x ≡ true → (start ≤ x.interval.end) × (start < d) × (wanted w x.head ≡ true)
  nearer-true e =
      let p = and-true (leb start x.interval.end && ltb start d) (wanted w x.head) e in
      let q = and-true (leb start x.interval.end) (ltb start d) p.0 in
      (true-le start x.interval.end q.0, true-le (suc start) d q.1, p.1)

  true-nearer : start ≤ x.interval.end → start < d → wanted w x.head ≡ true → nearer w a d x ≡ true
  true-nearer l k e = and_intro (leb start x.interval.end && ltb start d) (wanted w x.head)
      (and_intro (leb start x.interval.end) (ltb start d) (le-true start x.interval.end l)
      (le-true (suc start) d k))
      e

  pub near_low : a ≤ near_of w a d x
  unfolding near_of
  near_low = cases (nearer w a d x) (λ e. rw e (omega arith)) (λ e. rw e h)

  near_high : near_of w a d x ≤ d
  unfolding near_of
  near_high = cases (nearer w a d x)
      (λ e. let q = nearer-true e in rw e (omega arith))
      (λ e. rw e (omega arith))

  -- before it nothing is covered by x
  near_before : (u : ℕ) → a ≤ u → u < near_of w a d x → covers w u x ≡ false
  unfolding near_of
  near_before u p q = cases (covers w u x) (λ e. absurd (late e)) (λ e. e)
    where
      late : covers w u x ≡ true → ⊥
      late e =
          let c = and-true (in_interval x.interval u) (wanted w x.head) e in
          let i = in_interval-true x.interval u c.0 in
          let k = near_high in
          let q' : u < start = rw (true-nearer (omega arith) (omega arith) c.1) at q in
          omega arith

  -- it is covered by x, or it is d
  near_here : near_of w a d x < d → covers w (near_of w a d x) x ≡ true
  unfolding near_of
  near_here = cases (nearer w a d x)
      (λ e. let q = nearer-true e in
      rw e (λ k. and_intro (in_interval x.interval start) (wanted w x.head)
      (in_interval_in x.interval start (omega arith) q.0) q.2))
      (λ e. rw e (λ k. absurd (omega arith)))

  -- a turn of the pass
  pub near_step : (xs : List Authorization) →
      first (covered_by w (x ∷ xs)) a d ≡ first (covered_by w xs) a (near_of w a d x)
  near_step xs =
      let n = near_of w a d x in
      let f = first_of (covered_by w xs) a n near_low in
      let r = first (covered_by w xs) a n in
      first_is (covered_by w (x ∷ xs)) a d r (record {
        low = f.low;
        high = omega (arith, f.high, near_high);
        before = λ u p q. rw (near_before u p (omega (arith, f.high)), f.before u p q);
        here = λ k. cases (ltb r n)
            (λ z. or_true_right (covers w r x) (covered_by w xs r) (f.here (true-le (suc r) n z)))
            (λ z. let z' = false-le (suc r) n z in let y : near_of w a d x ≡ r = omega (arith, f.high) in
            or_intro_left (covers w r x) (covered_by w xs r) (rw y at (near_here (omega arith))));
      })

-- ---- tests that every instant passes, or none

pub nearest_all : (g : ℕ → Bool) (a b : ℕ) → a ≤ b → ((t : ℕ) → g t ≡ true) → first g a b ≡ a
nearest_all g a b h e = first_is g a b a
    (record { low = omega arith; high = h; before = λ u p q. absurd (omega arith); here = λ k. e a })

pub nearest_none : (g : ℕ → Bool) (a b : ℕ) → a ≤ b → ((t : ℕ) → g t ≡ false) → first g a b ≡ b
nearest_none g a b h e = first_is g a b b
    (record { low = h; high = omega arith; before = λ u p q. e u; here = λ k. absurd (omega arith) })
