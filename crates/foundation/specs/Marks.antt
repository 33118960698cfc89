-- Marks: instants at which a test can change. Asking at marks only gives the same maximal intervals
-- (`walk-maximal`).
use Rattle.std.specs.Prelude.{◌≡◌, ℕ, zero, suc, ◌-◌, ◌≤◌, ◌<◌, Bool, true, false, not, ◌&&◌, ◌||◌, ◌⊎◌, ◌↔◌, leb}
use Rattle.std.proofs.Math.Path.{refl}
use Rattle.std.proofs.Common.{subst, sym, ap, ◌∙◌}
use native.Mathlib.Omega.{arith}
use Rattle.std.proofs.lemmas.Bool.{false≢true}
use mathlib.Core.List.{List, [], ◌∷◌, ◌++◌}
use Rattle.std.proofs.Math.Logic.{inl, inr}
use Rattle.std.proofs.Math.Dec.{ltb}
use Rattle.foundation.specs.declared.Interval.{Interval}
use Rattle.foundation.specs.Tests.{pick, cases, agree, must_fail, not-true, le-true, le-false, true-le}
use Rattle.foundation.specs.Tests.{false-le, and-true, and_intro, and-false}
use Rattle.foundation.specs.Lists.{Mem}
use Rattle.foundation.specs.Intervals.{interval, in_interval, in_interval_in, in_interval-above, prepend}
use Rattle.foundation.specs.Intervals.{prepend_separate, prepend-covered, separate_weaken, maximal}
use Rattle.foundation.specs.Intervals.{maximal_separate, maximal_covered, maximal_unique, always}
use Rattle.foundation.specs.Intervals.{always_all}
use Rattle.foundation.specs.Intervals.{all_always}

-- the least mark above a that is below d, or d
unfoldable pub next : ℕ → List ℕ → ℕ → ℕ
next a [] d = d
next a (m ∷ ms) d = let r = next a ms d in pick (ltb a m && ltb m r) m r

-- no mark lies behind a and not behind t
abbrev pub clear : List ℕ → ℕ → ℕ → Bool
clear [] a t = true
clear (m ∷ ms) a t = not (ltb a m && leb m t) && clear ms a t

-- f changes at marks only
abbrev pub Steady : {X : Type 0} → (ℕ → X) → List ℕ → Type 0
Steady f ms = (a t : ℕ) → a ≤ t → clear ms a t ≡ true → f t ≡ f a

-- the maximal intervals of a to e where f holds, f being asked at a and at the marks behind it. With no fuel
-- left, `maximal`
unfoldable pub walk : (ℕ → Bool) → List ℕ → ℕ → ℕ → ℕ → List Interval
unfolding prepend next
walk f ms e zero a = maximal a e f
walk f ms e (suc k) a =
    let m = next a ms (suc e) in
    elim (leb a e) [
      | false ↦ []
      | true ↦ elim (f a) [ true ↦ prepend (interval a (m - 1)) (walk f ms e k m) | false ↦ walk f ms e k m ]
    ]

pub next_above : (a : ℕ) (ms : List ℕ) (d : ℕ) → a < d → a < next a ms d
unfolding next
next_above a [] d h = h
next_above a (m ∷ ms) d h = cases (ltb a m && ltb m (next a ms d))
    (λ e. rw e (true-le (suc a) m (and-true (ltb a m) (ltb m (next a ms d)) e).0))
    (λ e. rw e (next_above a ms d h))

pub next_le : (a : ℕ) (ms : List ℕ) (d : ℕ) → next a ms d ≤ d
unfolding next
next_le a [] d = omega arith
next_le a (m ∷ ms) d = cases (ltb a m && ltb m (next a ms d))
    (λ e. let l = true-le (suc m) (next a ms d) (and-true (ltb a m) (ltb m (next a ms d)) e).1 in
    let i = next_le a ms d in rw e (omega arith))
    (λ e. rw e (next_le a ms d))

pub next_clear : (a : ℕ) (ms : List ℕ) (d t : ℕ) → t < next a ms d → clear ms a t ≡ true
unfolding next
next_clear a [] d t h = refl
next_clear a (m ∷ ms) d t h = cases (ltb a m && ltb m (next a ms d))
    (λ e. let l = true-le (suc m) (next a ms d) (and-true (ltb a m) (ltb m (next a ms d)) e).1 in
    let g : t < m = rw e at h in
    rw (le-false m t g, next_clear a ms d t (omega arith), and-false (ltb a m)))
    (λ e. let g : t < next a ms d = rw e at h in
    rw (next_clear a ms d t g) (cases (ltb a m)
    (λ p. let q : ltb m (next a ms d) ≡ false = sym (rw p) ∙ e in let l = false-le (suc m) (next a ms d) q in
    rw (p, le-false m t (omega arith)))
    (λ p. rw p)))

-- what next finds: t is the given instant, and d is the answer for none
module _ (t d : ℕ) where
  -- what is found: none, or a mark above t
  abbrev pub MarkOrNone : List ℕ → ℕ → Type 0
  MarkOrNone ms m = (m ≡ d) ⊎ (Mem m ms × (t < m) × (m < d))

  -- no mark above t is less
  pub next_least : (ms : List ℕ) (m : ℕ) → Mem m ms → t < m → m < d → next t ms d ≤ m
  unfolding next
  next_least [] m k h l = absurd k.lower
  next_least (x ∷ ms) m k h l = cases (ltb t x && ltb x (next t ms d))
      (λ e. let w = true-le (suc x) (next t ms d) (and-true (ltb t x) (ltb x (next t ms d)) e).1 in
      rw e (took w k (λ n. next_least ms m n h l)))
      (λ e. rw e (left e k (λ n. next_least ms m n h l)))
    where
      took : x < next t ms d → Mem m (x ∷ ms) → (Mem m ms → next t ms d ≤ m) → x ≤ m
      took w (inl p) i = omega arith
      took w (inr n) i = omega (arith, i n)

      left : ltb t x && ltb x (next t ms d) ≡ false → Mem m (x ∷ ms) → (Mem m ms → next t ms d ≤ m) →
          next t ms d ≤ m
      left e (inl p) i =
          let f : ltb x (next t ms d) ≡ false = sym (rw (le-true (suc t) x (omega arith))) ∙ e in
          omega (arith, false-le (suc x) (next t ms d) f)
      left e (inr n) i = i n

  pub next_is : (ms : List ℕ) → MarkOrNone ms (next t ms d)
  unfolding next
  next_is [] = inl refl
  next_is (x ∷ ms) = cases (ltb t x && ltb x (next t ms d))
      (λ e. let w = and-true (ltb t x) (ltb x (next t ms d)) e in
      let q : x ≡ next t (x ∷ ms) d = rw e in
      subst (MarkOrNone (x ∷ ms)) q (took (true-le (suc t) x w.0) (true-le (suc x) (next t ms d) w.1) (next_is ms)))
      (λ e. let q : next t ms d ≡ next t (x ∷ ms) d = rw e in subst (MarkOrNone (x ∷ ms)) q (left (next_is ms)))
    where
      took : t < x → x < next t ms d → MarkOrNone ms (next t ms d) → MarkOrNone (x ∷ ms) x
      took h l (inl e) = inr (inl refl, h, omega arith)
      took h l (inr w) = inr (inl refl, h, omega (arith, w.2))

      left : MarkOrNone ms (next t ms d) → MarkOrNone (x ∷ ms) (next t ms d)
      left (inl e) = inl e
      left (inr w) = inr (inr w.0, w.1, w.2)

  -- none is found exactly if there is none
  pub next_none : (ms : List ℕ) → (next t ms d ≡ d) ↔ ((m : ℕ) → Mem m ms → t < m → m < d → ⊥)
  next_none ms = ((λ e m k h l. omega (arith, next_least ms m k h l)), (λ f. go f (next_is ms)))
    where
      go : ((m : ℕ) → Mem m ms → t < m → m < d → ⊥) → MarkOrNone ms (next t ms d) → next t ms d ≡ d
      go f (inl e) = e
      go f (inr w) = absurd (f (next t ms d) w.0 w.1 w.2)

-- walk's equations
pub walk_end : (f : ℕ → Bool) (ms : List ℕ) (e k a : ℕ) → leb a e ≡ false → walk f ms e (suc k) a ≡ []
unfolding walk
walk_end f ms e k a l = rw (l, walk)

pub walk-yes : (f : ℕ → Bool) (ms : List ℕ) (e k a : ℕ) → leb a e ≡ true → f a ≡ true →
    walk f ms e (suc k) a ≡ prepend (interval a (next a ms (suc e) - 1)) (walk f ms e k (next a ms (suc e)))
unfolding walk
walk-yes f ms e k a l q = rw (l, walk) (rw q)

pub walk_no : (f : ℕ → Bool) (ms : List ℕ) (e k a : ℕ) → leb a e ≡ true → f a ≡ false →
    walk f ms e (suc k) a ≡ walk f ms e k (next a ms (suc e))
unfolding walk
walk_no f ms e k a l q = rw (l, walk) (rw q)

empty : (f : ℕ → Bool) (a e : ℕ) → e < a → (t : ℕ) → in_interval (interval a e) t && f t ≡ false
empty f a e h t = cases (leb a t)
    (λ p. let l = true-le a t p in rw (in_interval-above (interval a e) t (omega arith)))
    (λ p. rw p)

-- the block from a up to the next mark
module _ (f : ℕ → Bool) (ms : List ℕ) (c : Steady f ms) (e a : ℕ) (h : a ≤ e) where
  block : (t : ℕ) → a ≤ t → t < next a ms (suc e) → f t ≡ f a
  block t p q = c a t p (next_clear a ms (suc e) t q)

  block_no : f a ≡ false → maximal (next a ms (suc e)) e f ≡ maximal a e f
  block_no q = maximal_unique a e f (next a ms (suc e)) (maximal (next a ms (suc e)) e f)
      (maximal_separate (next a ms (suc e)) e f) (λ t. maximal_covered (next a ms (suc e)) e f t ∙ go t)
    where
      go : (t : ℕ) → in_interval (interval (next a ms (suc e)) e) t && f t ≡ in_interval (interval a e) t && f t
      go t = cases (leb (next a ms (suc e)) t)
          (λ l. let m = true-le (next a ms (suc e)) t l in
          rw (l, le-true a t (omega (arith, next_above a ms (suc e) (omega arith)))))
          (λ l. let m = false-le (next a ms (suc e)) t l in rw l (cases (leb a t)
          (λ p. rw (block t (true-le a t p) m, q) (sym (and-false (in_interval (interval a e) t))))
          (λ p. rw p)))

  block_yes : f a ≡ true →
      prepend (interval a (next a ms (suc e) - 1)) (maximal (next a ms (suc e)) e f) ≡ maximal a e f
  block_yes q =
      let n = next_above a ms (suc e) (omega arith) in
      let ap₁ = separate_weaken (maximal (next a ms (suc e)) e f) (suc (next a ms (suc e) - 1))
      (next a ms (suc e))
      (omega arith) (maximal_separate (next a ms (suc e)) e f) in
      maximal_unique a e f a (prepend (interval a (next a ms (suc e) - 1)) (maximal (next a ms (suc e)) e f))
      (prepend_separate (interval a (next a ms (suc e) - 1)) (maximal (next a ms (suc e)) e f)
      (omega arith) ap₁)
      (λ t. prepend-covered (interval a (next a ms (suc e) - 1)) (maximal (next a ms (suc e)) e f) t
      (omega arith) ap₁
      ∙ rw (maximal_covered (next a ms (suc e)) e f t) (go t))
    where
      go : (t : ℕ) →
          in_interval (interval a (next a ms (suc e) - 1)) t
          || (in_interval (interval (next a ms (suc e)) e) t && f t)
          ≡ in_interval (interval a e) t && f t
      go t =
          let n = next_above a ms (suc e) (omega arith) in
          let u = next_le a ms (suc e) in
          cases (leb (next a ms (suc e)) t)
          (λ l. let m = true-le (next a ms (suc e)) t l in
          rw (
            in_interval-above (interval a (next a ms (suc e) - 1)) t (omega arith),
            l,
            le-true a t (omega arith),
          ))
          (λ l. let m = false-le (next a ms (suc e)) t l in cases (leb a t)
          (λ p. let g = true-le a t p in
          rw (
            in_interval_in (interval a (next a ms (suc e) - 1)) t g (omega arith),
            in_interval_in (interval a e) t g (omega arith),
            block t g m,
            q,
          ))
          (λ p. rw (l, p)))

pub walk_maximal : (f : ℕ → Bool) (ms : List ℕ) → Steady f ms → (e k a : ℕ) → walk f ms e k a ≡ maximal a e f
unfolding walk
walk_maximal f ms c e zero a = refl
walk_maximal f ms c e (suc k) a = cases (leb a e)
    (λ l. let h = true-le a e l in
    let i = walk_maximal f ms c e k (next a ms (suc e)) in
    cases (f a)
    (λ q. walk-yes f ms e k a l q ∙ ap (λ (r : List Interval). prepend (interval a (next a ms (suc e) - 1)) r)
    i
    ∙ block_yes f ms c e a h q)
    (λ q. walk_no f ms e k a l q ∙ i ∙ block_no f ms c e a h q))
    (λ l. let h = false-le a e l in walk_end f ms e k a l
    ∙ maximal_unique a e f a [] tt (λ t. sym (empty f a e h t)))

-- ---- clear and steady

clear_one : (m a t : ℕ) → a ≤ t → not (ltb a m && leb m t) ≡ true → leb m t ≡ leb m a
clear_one m a t h e = cases (leb m a)
    (λ p. let l = true-le m a p in le-true m t (omega arith) ∙ sym p)
    (λ p. let l = false-le m a p in cases (leb m t)
    (λ q. absurd (false≢true (sym (rw (le-true (suc a) m l, q)) ∙ e)))
    (λ q. q ∙ sym p))

leb_flip : (u t : ℕ) → leb t u ≡ not (leb (suc u) t)
leb_flip u t = cases (leb t u)
    (λ p. let l = true-le t u p in p ∙ rw (le-false (suc u) t (omega arith)))
    (λ p. let l = false-le t u p in p ∙ rw (le-true (suc u) t l))

pub in_interval-clear : (r : Interval) (a t : ℕ) → a ≤ t → not (ltb a r.start && leb r.start t) ≡ true →
    not (ltb a (suc r.end) && leb (suc r.end) t) ≡ true → in_interval r t ≡ in_interval r a
in_interval-clear r a t h e₁ e₂ =
    rw (
      clear_one r.start a t h e₁,
      leb_flip r.end t,
      leb_flip r.end a,
      clear_one (suc r.end) a t h e₂,
    )

-- of what is clear, a part is
pub clear-part : (ms : List ℕ) (a b t u : ℕ) → a ≤ b → u ≤ t → clear ms a t ≡ true → clear ms b u ≡ true
clear-part [] a b t u h l e = refl
clear-part (m ∷ ms) a b t u h l e =
    let p = and-true (not (ltb a m && leb m t)) (clear ms a t) e in
    and_intro (not (ltb b m && leb m u)) (clear ms b u)
    (ap not (must_fail (ltb a m && leb m t) (ltb b m && leb m u)
    (not-true (ltb a m && leb m t) p.0) wider))
    (clear-part ms a b t u h l p.1)
  where
    wider : ltb b m && leb m u ≡ true → ltb a m && leb m t ≡ true
    wider f =
        let w = and-true (ltb b m) (leb m u) f in
        and_intro (ltb a m) (leb m t) (le-true (suc a) m (omega (arith, true-le (suc b) m w.0)))
        (le-true m t (omega (arith, true-le m u w.1)))

pub clear_both : (xs ys : List ℕ) (a t : ℕ) → clear (xs ++ ys) a t ≡ true →
    (clear xs a t ≡ true) × (clear ys a t ≡ true)
clear_both [] ys a t e = (refl, e)
clear_both (x ∷ xs) ys a t e =
    let p = and-true (not (ltb a x && leb x t)) (clear (xs ++ ys) a t) e in
    let q = clear_both xs ys a t p.1 in
    (and_intro (not (ltb a x && leb x t)) (clear xs a t) p.0 q.0, q.1)

pub not_steady : (ms : List ℕ) (f : ℕ → Bool) → Steady f ms → Steady (λ u. not (f u)) ms
not_steady ms f c a t h e = ap not (c a t h e)

pub always_steady : (ms : List ℕ) (f : ℕ → Bool) → Steady f ms → (s a t : ℕ) → s ≤ a → a ≤ t →
    clear ms a t ≡ true →
    always s t f ≡ always s a f
always_steady ms f c s a t h k e = agree (always s t f) (always s a f)
    (λ p. all_always s a f (λ u x y. always_all s t f p u x (omega arith)))
    (λ p. all_always s t f (λ u x y. cases (leb u a)
    (λ l. always_all s a f p u x (true-le u a l))
    (λ l. let n = false-le u a l in
    c a u (omega arith) (clear-part ms a a t u (omega arith) y e) ∙ always_all s a f p a h (omega arith))))

-- the last mark that is not behind u, or 0
pub rep : (ms : List ℕ) (u : ℕ) → (a : ℕ) × Mem a (0 ∷ ms) × (a ≤ u) × (clear ms a u ≡ true)
rep [] u = (0, inl refl, omega arith, refl)
rep (m ∷ ms) u = go (rep ms u)
  where
    keep_mem : (a : ℕ) → Mem a (0 ∷ ms) → Mem a (0 ∷ m ∷ ms)
    keep_mem a (inl e) = inl e
    keep_mem a (inr n) = inr (inr n)

    go : (a : ℕ) × Mem a (0 ∷ ms) × (a ≤ u) × (clear ms a u ≡ true) →
        (a : ℕ) × Mem a (0 ∷ m ∷ ms) × (a ≤ u) × (clear (m ∷ ms) a u ≡ true)
    go r = cases (ltb r.0 m && leb m u)
        (λ e. let p = and-true (ltb r.0 m) (leb m u) e in let l = true-le (suc r.0) m p.0 in (
          m,
          inr (inl refl),
          true-le m u p.1,
          rw (le-false (suc m) m (omega arith))
              (clear-part ms r.0 m u u (omega arith) (omega arith) r.3),
        ))
        (λ e. (r.0, keep_mem r.0 r.1, r.2, rw e r.3))
