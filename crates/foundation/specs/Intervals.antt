-- Intervals of instants, and the maximal intervals on which a test holds (01: longest runs).
-- Theorem 1: `maximal-separate`, `maximal-covered` and `maximal-unique` at the end.
use Rattle.std.specs.Prelude.{◌≡◌, refl, ℕ, zero, suc, max, ◌+◌, ◌-◌, ◌≤◌, ◌<◌, ◌↔◌, Bool, true, false, not, ◌&&◌, ◌||◌, List, [], ◌∷◌, leb, ltb, eqb}
use Rattle.std.proofs.Common.{sym, ap, ap₂, ◌∙◌, arith, true≢false}
use Rattle.std.proofs.lemmas.Bool.{false≢true}
use Rattle.foundation.specs.declared.Interval.{Interval}
use Rattle.foundation.specs.Tests.{pick, cases, agree, le-true, le-false, true-le, false-le, true_eq}
use Rattle.foundation.specs.Tests.{false_eq}
use Rattle.foundation.specs.Tests.{or_assoc, or_false, and-true, and_intro}

abbrev pub interval : ℕ → ℕ → Interval
interval a b = record { start = a; end = b }

-- 01, Ranges: "an interval includes both ends"
abbrev pub in_interval : Interval → ℕ → Bool
in_interval r t = leb r.start t && leb t r.end

-- they have an instant in common (`overlap-instant`)
abbrev pub overlap : Interval → Interval → Bool
overlap i j = leb i.start j.end && leb j.start i.end

-- the instant lies in one of the intervals
abbrev pub covered : List Interval → ℕ → Bool
covered [] t = false
covered (r ∷ rs) t = in_interval r t || covered rs t

-- r in front of intervals that begin behind it: one interval if no instant is missing between, else one more
unfoldable pub prepend : Interval → List Interval → List Interval
prepend r [] = r ∷ []
prepend r (q ∷ qs) = pick (eqb q.start (suc r.end)) (interval r.start q.end ∷ qs) (r ∷ q ∷ qs)

-- the maximal intervals of the n instants from s on where f holds
unfoldable pub maximal_from : (ℕ → Bool) → ℕ → ℕ → List Interval
unfolding prepend
maximal_from f s zero = []
maximal_from f s (suc n) =
    elim (f s) [ true ↦ prepend (interval s s) (maximal_from f (suc s) n) | false ↦ maximal_from f (suc s) n ]

-- 01, Requests: "the longest runs of instants": the maximal intervals of the instants s to e where f holds
pub maximal : ℕ → ℕ → (ℕ → Bool) → List Interval
unfolding maximal_from
maximal s e f = maximal_from f s (suc e - s)

-- where the first of them starts; 0 for none
abbrev pub first_start : List Interval → ℕ
first_start [] = 0
first_start (r ∷ rest) = r.start

abbrev pub none? : List Interval → Bool
none? [] = true
none? (r ∷ rs) = false

-- f holds at every instant from a to t: there is no interval where it does not (`always-all`, `all-always`)
unfoldable pub always : ℕ → ℕ → (ℕ → Bool) → Bool
always a t f = none? (maximal a t (λ u. not (f u)))

-- ---- what separate intervals are

-- intervals that rise from k on, none empty, with an instant missing between two
abbrev pub Separate : ℕ → List Interval → Type 0
Separate k [] = Unit {0}
Separate k (r ∷ rs) = (k ≤ r.start) × (r.start ≤ r.end) × Separate (suc (suc r.end)) rs

pub in_interval-true : (r : Interval) (t : ℕ) → in_interval r t ≡ true → (r.start ≤ t) × (t ≤ r.end)
in_interval-true r t e =
    let p = and-true (leb r.start t) (leb t r.end) e in
    (true-le r.start t p.0, true-le t r.end p.1)

pub in_interval_in : (r : Interval) (t : ℕ) → r.start ≤ t → t ≤ r.end → in_interval r t ≡ true
in_interval_in r t p q = and_intro (leb r.start t) (leb t r.end) (le-true r.start t p)
    (le-true t r.end q)

in_interval-below : (r : Interval) (t : ℕ) → t < r.start → in_interval r t ≡ false
in_interval-below r t h = rw (le-false r.start t h)

-- of two intervals that are not empty
pub overlap-instant : (i j : Interval) → i.start ≤ i.end → j.start ≤ j.end →
    (overlap i j ≡ true) ↔ ((t : ℕ) × (in_interval i t ≡ true) × (in_interval j t ≡ true))
overlap-instant i j p q = (
  (λ e. let w = and-true (leb i.start j.end) (leb j.start i.end) e in
      let a = true-le i.start j.end w.0 in
      let b = true-le j.start i.end w.1 in
      let t = max i.start j.start in
      (t, in_interval_in i t (omega arith) (omega arith), in_interval_in j t (omega arith) (omega arith))),
  (λ c. let a = in_interval-true i c.0 c.1 in
      let b = in_interval-true j c.0 c.2 in
      and_intro (leb i.start j.end) (leb j.start i.end)
      (le-true i.start j.end (omega (arith, a.0, b.1)))
      (le-true j.start i.end (omega (arith, b.0, a.1)))),
)

pub in_interval-above : (r : Interval) (t : ℕ) → r.end < t → in_interval r t ≡ false
in_interval-above r t h = cases (leb r.start t) (λ e. rw (e, le-false t r.end h)) (λ e. rw e)

pub separate_weaken : (rs : List Interval) (j k : ℕ) → j ≤ k → Separate k rs → Separate j rs
separate_weaken [] j k h a = tt
separate_weaken (r ∷ rs) j k h a = (omega arith, a.1, a.2)

-- nothing below k is covered
pub none_below : (rs : List Interval) (k t : ℕ) → Separate k rs → t < k → covered rs t ≡ false
none_below [] k t a h = refl
none_below (r ∷ rs) k t a h =
    rw (in_interval-below r t (omega arith), none_below rs (suc (suc r.end)) t a.2 (omega arith))

-- what a interval covers, its list covers
pub head_in_lem : (r : Interval) (rs : List Interval) (t : ℕ) → r.start ≤ t → t ≤ r.end →
    covered (r ∷ rs) t ≡ true
head_in_lem r rs t p q = rw (in_interval_in r t p q)

pub tail_in : (r : Interval) (rs : List Interval) (t : ℕ) → r.end < t → covered (r ∷ rs) t ≡ covered rs t
tail_in r rs t h = rw (in_interval-above r t h)

module _ (r : Interval) (rs : List Interval) (q : Interval) (qs : List Interval) (j k : ℕ)
    (a : Separate j (r ∷ rs)) (b : Separate k (q ∷ qs))
    (h : (t : ℕ) → covered (r ∷ rs) t ≡ covered (q ∷ qs) t) where
  start-le : q.start ≤ r.start
  start-le = cases (leb q.start r.start) (λ e. true-le _ _ e)
      (λ e. absurd (true≢false (sym (head_in_lem r rs r.start (omega arith) a.1) ∙ h r.start
      ∙ none_below (q ∷ qs) q.start r.start (omega arith, b.1, b.2) (false-le _ _ e))))

  end-le : q.start ≤ r.start → q.end ≤ r.end
  end-le f = cases (leb q.end r.end) (λ e. true-le _ _ e)
      (λ e. let l = false-le q.end r.end e in
      absurd (false≢true (sym (tail_in r rs (suc r.end) (omega arith)
      ∙ none_below rs (suc (suc r.end)) (suc r.end) a.2 (omega arith)) ∙ h (suc r.end)
      ∙ head_in_lem q qs (suc r.end) (omega arith) (omega arith))))

  rest : q.end ≡ r.end → (t : ℕ) → covered rs t ≡ covered qs t
  rest e t = cases (leb t r.end)
      (λ l. let m = true-le t r.end l in
      none_below rs (suc (suc r.end)) t a.2 (omega arith)
      ∙ sym (none_below qs (suc (suc q.end)) t b.2 (omega arith)))
      (λ l. let m = false-le t r.end l in sym (tail_in r rs t m) ∙ h t ∙ tail_in q qs t (omega arith))

-- two lists of separate intervals that cover the same instants are equal
pub unique : (rs qs : List Interval) (j k : ℕ) → Separate j rs → Separate k qs →
    ((t : ℕ) → covered rs t ≡ covered qs t) → rs ≡ qs
unique [] [] j k a b h = refl
unique [] (q ∷ qs) j k a b h = absurd (false≢true (h q.start
    ∙ head_in_lem q qs q.start (omega arith) b.1))
unique (r ∷ rs) [] j k a b h = absurd (true≢false (sym (head_in_lem r rs r.start (omega arith) a.1)
    ∙ h r.start))
unique (r ∷ rs) (q ∷ qs) j k a b h =
    let f₁ = start-le r rs q qs j k a b h in
    let f₂ = start-le q qs r rs k j b a (λ t. sym (h t)) in
    let u₁ = end-le r rs q qs j k a b h f₁ in
    let u₂ = end-le q qs r rs k j b a (λ t. sym (h t)) f₂ in
    let f : r.start ≡ q.start = omega arith in
    let u : r.end ≡ q.end = omega arith in
    ap₂ {C = List Interval} (λ (x : Interval) (xs : List Interval). x ∷ xs)
    (λ i. record { start = f i; end = u i })
    (unique rs qs (suc (suc r.end)) (suc (suc q.end)) a.2 b.2 (rest r rs q qs j k a b h (sym u)))

-- ---- prepend

pub prepend_separate : (r : Interval) (rs : List Interval) → r.start ≤ r.end → Separate (suc r.end) rs →
    Separate r.start (prepend r rs)
unfolding prepend
prepend_separate r [] h a = (omega arith, h, tt)
prepend_separate r (q ∷ qs) h a = cases (eqb q.start (suc r.end))
    (λ e. let m = true_eq q.start (suc r.end) e in rw e (omega arith, omega arith, a.2))
    (λ e. let m = false_eq q.start (suc r.end) e in rw e (omega arith, h, (omega arith, a.1, a.2)))

-- two intervals with nothing missing between them are one
pub join : (r q : Interval) (t : ℕ) → r.start ≤ r.end → q.start ≤ q.end → q.start ≡ suc r.end →
    in_interval (interval r.start q.end) t ≡ in_interval r t || in_interval q t
join r q t h k m = cases (leb t r.end)
    (λ e. let l = true-le t r.end e in
    rw (e, le-true t q.end (omega arith), le-false q.start t (omega arith))
    (sym (or_false (leb r.start t && true))))
    (λ e. let l = false-le t r.end e in
    rw (e, le-true r.start t (omega arith), le-true q.start t (omega arith)))

pub prepend-covered : (r : Interval) (rs : List Interval) (t : ℕ) → r.start ≤ r.end →
    Separate (suc r.end) rs →
    covered (prepend r rs) t ≡ in_interval r t || covered rs t
unfolding prepend
prepend-covered r [] t h a = refl
prepend-covered r (q ∷ qs) t h a = cases (eqb q.start (suc r.end))
    (λ e. rw (e, join r q t h a.1 (true_eq q.start (suc r.end) e))
    (or_assoc (in_interval r t) (in_interval q t) (covered qs t)))
    (λ e. rw e)

-- ---- maximal_from

pub maximal_from-yes : (f : ℕ → Bool) (s n : ℕ) → f s ≡ true →
    maximal_from f s (suc n) ≡ prepend (interval s s) (maximal_from f (suc s) n)
unfolding maximal_from
maximal_from-yes f s n e = rw (e, maximal_from)

pub maximal_from_no : (f : ℕ → Bool) (s n : ℕ) → f s ≡ false →
    maximal_from f s (suc n) ≡ maximal_from f (suc s) n
unfolding maximal_from
maximal_from_no f s n e = rw (e, maximal_from)

pub maximal_from_separate : (f : ℕ → Bool) (n s : ℕ) → Separate s (maximal_from f s n)
unfolding maximal_from
maximal_from_separate f zero s = tt
maximal_from_separate f (suc n) s = cases (f s)
    (λ e. rw (maximal_from-yes f s n e)
    (prepend_separate (interval s s) (maximal_from f (suc s) n) (omega arith)
    (maximal_from_separate f n (suc s))))
    (λ e. rw (maximal_from_no f s n e)
    (separate_weaken (maximal_from f (suc s) n) s (suc s) (omega arith) (maximal_from_separate f n (suc s))))

-- t is one of the n instants from s on
abbrev pub within : ℕ → ℕ → ℕ → Bool
within s n t = leb s t && ltb t (s + n)

pub within_in : (s n t : ℕ) → s ≤ t → t < s + n → within s n t ≡ true
within_in s n t p q = and_intro (leb s t) (ltb t (s + n)) (le-true s t p) (le-true (suc t) (s + n) q)

pub within-below : (s n t : ℕ) → t < s → within s n t ≡ false
within-below s n t p = rw (le-false s t p)

pub within-above : (s n t : ℕ) → s + n ≤ t → within s n t ≡ false
within-above s n t p = cases (leb s t) (λ e. rw (e, le-false (suc t) (s + n) (omega arith))) (λ e. rw e)

pub maximal_from-covered : (f : ℕ → Bool) (n s t : ℕ) → covered (maximal_from f s n) t ≡ within s n t && f t
unfolding maximal_from
maximal_from-covered f zero s t = cases (leb s t)
    (λ e. let h = true-le s t e in rw (within-above s 0 t (omega arith)))
    (λ e. let h = false-le s t e in rw (within-below s 0 t h))
maximal_from-covered f (suc n) s t = cases (f s)
    (λ e. rw (
      maximal_from-yes f s n e,
      prepend-covered (interval s s) (maximal_from f (suc s) n) t (omega arith)
          (maximal_from_separate f n (suc s)),
      maximal_from-covered f n (suc s) t,
    ) (here e))
    (λ e. rw (maximal_from_no f s n e, maximal_from-covered f n (suc s) t) (other e))
  where
    -- behind s the two windows are one
    behind : s < t → within (suc s) n t ≡ within s (suc n) t
    behind h = cases (ltb t (s + suc n))
        (λ e. let l = true-le (suc t) (s + suc n) e in
        rw (within_in (suc s) n t h (omega arith), within_in s (suc n) t (omega arith) l))
        (λ e. let l = false-le (suc t) (s + suc n) e in
        rw (within-above (suc s) n t (omega arith), within-above s (suc n) t (omega arith)))

    at_s : t ≡ s → f s ≡ true → within s (suc n) t && f t ≡ true
    at_s h e = rw (within_in s (suc n) t (omega arith) (omega arith), h) e

    other : f s ≡ false → within (suc s) n t && f t ≡ within s (suc n) t && f t
    other e = cases (leb s t)
        (λ l. let m = true-le s t l in cases (eqb t s)
        (λ q. let p = true_eq t s q in
        rw (within-below (suc s) n t (omega arith), within_in s (suc n) t (omega arith) (omega arith), p, e))
        (λ q. let p = false_eq t s q in rw (behind (omega arith))))
        (λ l. let m = false-le s t l in rw (
          within-below (suc s) n t (omega arith),
          within-below s (suc n) t m,
        ))

    here : f s ≡ true → in_interval (interval s s) t || (within (suc s) n t && f t) ≡ within s (suc n) t && f t
    here e = cases (leb s t)
        (λ l. let m = true-le s t l in cases (eqb t s)
        (λ q. let p = true_eq t s q in rw (in_interval_in (interval s s) t m (omega arith)) (sym (at_s p e)))
        (λ q. let p = false_eq t s q in rw (
          in_interval-above (interval s s) t (omega arith),
          behind (omega arith),
        )))
        (λ l. let m = false-le s t l in
        rw (
          in_interval-below (interval s s) t m,
          within-below (suc s) n t (omega arith),
          within-below s (suc n) t m,
        ))

-- ---- maximal: what it covers, and that nothing else does so

pub maximal_separate : (s e : ℕ) (f : ℕ → Bool) → Separate s (maximal s e f)
unfolding maximal
maximal_separate s e f = maximal_from_separate f (suc e - s) s

pub maximal_covered : (s e : ℕ) (f : ℕ → Bool) (t : ℕ) →
    covered (maximal s e f) t ≡ in_interval (interval s e) t && f t
unfolding maximal
maximal_covered s e f t = maximal_from-covered f (suc e - s) s t ∙ ap (λ (b : Bool). b && f t) window
  where
    window : within s (suc e - s) t ≡ in_interval (interval s e) t
    window = cases (leb s t)
        (λ p. let h = true-le s t p in cases (leb t e)
        (λ q. let k = true-le t e q in rw (within_in s (suc e - s) t h (omega arith), p, q))
        (λ q. let k = false-le t e q in rw (within-above s (suc e - s) t (omega arith), p, q)))
        (λ p. rw p)

pub maximal_unique : (s e : ℕ) (f : ℕ → Bool) (k : ℕ) (rs : List Interval) → Separate k rs →
    ((t : ℕ) → covered rs t ≡ in_interval (interval s e) t && f t) → rs ≡ maximal s e f
maximal_unique s e f k rs a h =
    unique rs (maximal s e f) k s a (maximal_separate s e f) (λ t. h t ∙ sym (maximal_covered s e f t))

-- t is the first instant from s to e at which f holds
pub record FirstIn (s e : ℕ) (f : ℕ → Bool) (t : ℕ) : Type 0 where
  pub low : s ≤ t
  pub high : t ≤ e
  pub here : f t ≡ true
  pub before : (u : ℕ) → s ≤ u → u < t → f u ≡ false

-- it is where the first maximal interval starts,
pub maximal_first : (s e : ℕ) (f : ℕ → Bool) → none? (maximal s e f) ≡ false →
    FirstIn s e f (first_start (maximal s e f))
maximal_first s e f = go (maximal s e f) (maximal_separate s e f) (maximal_covered s e f)
  where
    go : (rs : List Interval) → Separate s rs →
        ((t : ℕ) → covered rs t ≡ in_interval (interval s e) t && f t) → none? rs ≡ false →
        FirstIn s e f (first_start rs)
    go [] a c n = absurd (false≢true (sym n))
    go (r ∷ rs) a c n =
        let w = and-true (in_interval (interval s e) r.start) (f r.start)
        (sym (c r.start) ∙ head_in_lem r rs r.start (omega arith) a.1) in
        let i = in_interval-true (interval s e) r.start w.0 in
        record {
          low = a.0;
          high = i.1;
          here = w.1;
          before = λ u p q. cases (f u)
              (λ y. absurd (false≢true (sym (none_below (r ∷ rs) r.start u (omega arith, a.1, a.2) q)
              ∙ c u ∙ rw (in_interval_in (interval s e) u p (omega (arith, i.1)), y))))
              (λ y. y);
        }

-- and there is no other
pub first_one : (s e : ℕ) (f : ℕ → Bool) (t u : ℕ) → FirstIn s e f t → FirstIn s e f u → t ≡ u
first_one s e f t u v w = cases (ltb t u)
    (λ l. absurd (false≢true (sym (w.before t v.low (true-le (suc t) u l)) ∙ v.here)))
    (λ l. cases (ltb u t)
    (λ k. absurd (false≢true (sym (v.before u w.low (true-le (suc u) t k)) ∙ w.here)))
    (λ k. let a = false-le (suc t) u l in let b = false-le (suc u) t k in omega arith))

-- ---- always

none_nil : (rs : List Interval) → none? rs ≡ true → rs ≡ []
none_nil [] e = refl
none_nil (r ∷ rs) e = absurd (false≢true e)

pub always_all : (a t : ℕ) (f : ℕ → Bool) → always a t f ≡ true → (u : ℕ) → a ≤ u → u ≤ t → f u ≡ true
unfolding always
always_all a t f e u h k = cases (f u) (λ p. p) (λ p. absurd (false≢true (
    ap (λ (rs : List Interval). covered rs u) (sym (none_nil (maximal a t (λ u. not (f u))) e))
    ∙ maximal_covered a t (λ u. not (f u)) u ∙ rw (in_interval_in (interval a t) u h k, p))))

pub all_always : (a t : ℕ) (f : ℕ → Bool) → ((u : ℕ) → a ≤ u → u ≤ t → f u ≡ true) → always a t f ≡ true
unfolding always
all_always a t f h = rw (← (maximal_unique a t (λ u. not (f u)) 0 [] tt
    (λ u. sym (cases (in_interval (interval a t) u)
    (λ e. let p = in_interval-true (interval a t) u e in rw (e, h u p.0 p.1))
    (λ e. rw e)))))

pub always_mono : (a t : ℕ) (f g : ℕ → Bool) → ((u : ℕ) → f u ≡ true → g u ≡ true) → always a t f ≡ true →
    always a t g ≡ true
always_mono a t f g h e = all_always a t g (λ u p q. h u (always_all a t f e u p q))

pub always_cong : (a t : ℕ) (f g : ℕ → Bool) → ((u : ℕ) → f u ≡ g u) → always a t f ≡ always a t g
always_cong a t f g h = agree (always a t f) (always a t g)
    (always_mono a t f g (λ u e. sym (h u) ∙ e))
    (always_mono a t g f (λ u e. h u ∙ e))
