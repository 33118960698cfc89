-- What keeping some instants of authorizations leaves: the heads that still cover an instant (`live-keep`),
-- pieces of the authorizations that were there (`pieces_of`), in order and apart (`keep-sorted`).
use Rattle.std.specs.Prelude.{◌≡◌, refl, ◌⊎◌, ℕ, suc, ◌≤◌, ◌<◌, Bool, true, not, ◌&&◌, ◌||◌, List, [], ◌∷◌, ◌++◌, ltb, eqb}
use Rattle.std.proofs.Common.{sym, ap, ap₂, ◌∙◌, inl, inr, ⊎_elim, arith}
use Rattle.std.specs.Bool.{beq}
use Rattle.foundation.specs.Tests.{pick, cases, le-true, true-le, true_eq, eq_true, ne_false, and-true}
use Rattle.foundation.specs.Tests.{and_intro}
use Rattle.foundation.specs.Tests.{or_true_right, or_cases, implied, beq_eq, beq_self}
use Rattle.foundation.specs.Lists.{keep_if, Mem, append_mem, conjunct}
use Rattle.foundation.specs.declared.Interval.{Interval}
use Rattle.foundation.specs.Intervals.{in_interval, in_interval-true, covered, Separate, head_in_lem}
use Rattle.foundation.specs.Intervals.{none_below}
use Rattle.foundation.specs.Intervals.{maximal, maximal_separate, maximal_covered, maximal_unique}
use Rattle.model.specs.declared.Head.{Head}
use Rattle.model.specs.declared.Authorization.{Authorization}
use Rattle.model.specs.Support.{live}
use Rattle.model.proofs.SupportFacts.{live_append}
use Rattle.model.specs.Withdrawal.{authorization, pieces, keep}
use Rattle.model.specs.Soundness.{rises, same_head}
use Rattle.laws.specs.Chained.{Pairwise, pairwise_append}

-- the intervals of an authorization's instants that p keeps
abbrev pub intervals_of : (Head → ℕ → Bool) → Authorization → List Interval
intervals_of p a = maximal a.interval.start a.interval.end (p a.head)

-- ---- at an instant

-- separate pieces cover an instant at most once
pub live-pieces : (t : ℕ) (h : Head) (is : List Interval) (k : ℕ) → Separate k is →
    live t (pieces h is) ≡ pick (covered is t) (h ∷ []) []
live-pieces t h [] k a = refl
live-pieces t h (i ∷ is) k a = cases (in_interval i t)
    (λ e. let p = in_interval-true i t e in
    rw (
      e,
      live-pieces t h is (suc (suc i.end)) a.2,
      none_below is (suc (suc i.end)) t a.2 (omega arith),
    ))
    (λ e. rw (e, live-pieces t h is (suc (suc i.end)) a.2))

pub live-keep : (q : Head → ℕ → Bool) (xs : List Authorization) (t : ℕ) →
    live t (keep q xs) ≡ keep_if (λ h. q h t) (live t xs)
unfolding keep
live-keep q [] t = refl
live-keep q (a ∷ xs) t =
    live_append t (pieces a.head (intervals_of q a)) (keep q xs)
    ∙ rw (
      live-pieces t a.head (intervals_of q a) a.interval.start
          (maximal_separate a.interval.start a.interval.end (q a.head)),
      maximal_covered a.interval.start a.interval.end (q a.head) t,
      live-keep q xs t,
    )
    (cases (in_interval a.interval t) (λ e. cases (q a.head t) (λ f. rw (e, f)) (λ f. rw (e, f)))
    (λ e. rw e))

-- tests that agree at each instant of each authorization keep the same
pub keep_cong : (p q : Head → ℕ → Bool) (xs : List Authorization) →
    ((a : Authorization) → Mem a xs → (t : ℕ) → in_interval a.interval t ≡ true →
    p a.head t ≡ q a.head t) →
    keep p xs ≡ keep q xs
unfolding keep
keep_cong p q [] h = refl
keep_cong p q (a ∷ xs) h = ap₂ (λ (is : List Interval) (r : List Authorization). pieces a.head is ++ r)
    (maximal_unique a.interval.start a.interval.end (q a.head) a.interval.start
    (intervals_of p a)
    (maximal_separate a.interval.start a.interval.end (p a.head))
    (λ t. maximal_covered a.interval.start a.interval.end (p a.head) t
    ∙ cases (in_interval a.interval t) (λ e. rw (e, h a (inl refl) t e)) (λ e. rw e)))
    (keep_cong p q xs (λ c m. h c (inr m)))

-- ---- pieces

-- a is a piece of c: the same head, and an interval, not empty, within the other's
abbrev pub Piece : Authorization → Authorization → Type 0
Piece a c =
    (a.head ≡ c.head)
    × (a.interval.start ≤ a.interval.end)
    × (c.interval.start ≤ a.interval.start)
    × (a.interval.end ≤ c.interval.end)

pub piece_piece : (a c d : Authorization) → Piece a c → Piece c d → Piece a d
piece_piece a c d p q = (p.0 ∙ q.0, p.1, omega (arith, p.2, q.2), omega (arith, p.3, q.3))

within : (h : Head) (i : Interval) (is : List Interval) (k : ℕ) → Separate k is →
    ((t : ℕ) → covered is t ≡ true → in_interval i t ≡ true) →
    (x : Authorization) → Mem x (pieces h is) → Piece x (authorization h i)
within h i [] k p c x m = absurd m.lower
within h i (r ∷ is) k p c x (inl e) =
    let u = in_interval-true i r.start (c r.start (head_in_lem r is r.start (omega arith) p.1)) in
    let v = in_interval-true i r.end (c r.end (head_in_lem r is r.end p.1 (omega arith))) in
    rw e (refl, p.1, u.0, v.1)
within h i (r ∷ is) k p c x (inr m) =
    within h i is (suc (suc r.end)) p.2 (λ t d. c t (or_true_right (in_interval r t) (covered is t) d)) x
    m

-- what is kept of an authorization lies in it
pub piece_of_lem : (p : Head → ℕ → Bool) (a x : Authorization) → Mem x (pieces a.head (intervals_of p a)) →
    Piece x a
piece_of_lem p a x m = within a.head a.interval (intervals_of p a) a.interval.start
    (maximal_separate a.interval.start a.interval.end (p a.head))
    (λ t c. (and-true (in_interval a.interval t) (p a.head t)
    (sym (maximal_covered a.interval.start a.interval.end (p a.head) t) ∙ c)).0)
    x m

pub pieces_of : (p : Head → ℕ → Bool) (xs : List Authorization) (x : Authorization) → Mem x (keep p xs) →
    (a : Authorization) × Mem a xs × Piece x a
unfolding keep
pieces_of p [] x m = absurd m.lower
pieces_of p (a ∷ xs) x m = ⊎_elim
    (λ n. (a, inl refl, piece_of_lem p a x n))
    (λ n. let w = pieces_of p xs x n in (w.0, inr w.1, w.2))
    (append_mem x (pieces a.head (intervals_of p a)) (keep p xs) m)

-- ---- heads that are the same

-- the tests of `same_head`
abbrev same_tests : Head → Head → List Bool
same_tests h k =
    eqb h.label k.label
    ∷ eqb h.grantor k.grantor
    ∷ eqb h.subject k.subject
    ∷ eqb h.object k.object
    ∷ eqb h.mode k.mode
    ∷ beq h.negative k.negative
    ∷ beq h.option k.option
    ∷ eqb h.granted k.granted
    ∷ []

pub same_head_eq : (h k : Head) → same_head h k ≡ true → h ≡ k
same_head_eq h k e =
    let t = conjunct (same_tests h k) e in
    λ i. record {
      label = true_eq h.label k.label (t _ (inl refl)) i;
      grantor = true_eq h.grantor k.grantor (t _ (inr (inl refl))) i;
      subject = true_eq h.subject k.subject (t _ (inr (inr (inl refl)))) i;
      object = true_eq h.object k.object (t _ (inr (inr (inr (inl refl))))) i;
      mode = true_eq h.mode k.mode (t _ (inr (inr (inr (inr (inl refl)))))) i;
      negative = beq_eq h.negative k.negative (t _ (inr (inr (inr (inr (inr (inl refl))))))) i;
      option = beq_eq h.option k.option (t _ (inr (inr (inr (inr (inr (inr (inl refl)))))))) i;
      granted = true_eq h.granted k.granted (t _ (inr (inr (inr (inr (inr (inr (inr (inl refl)))))))))
          i;
    }

pub same_head_self : (h : Head) → same_head h h ≡ true
same_head_self h = rw (
  eq_true h.label h.label refl,
  eq_true h.grantor h.grantor refl,
  eq_true h.subject h.subject refl,
  eq_true h.object h.object refl,
  eq_true h.mode h.mode refl,
  beq_self h.negative,
  beq_self h.option,
  eq_true h.granted h.granted refl,
)

-- ---- the order

-- 01: "lines of one label differ only in their intervals, with at least one instant missing between two"
abbrev pub apart : Authorization → Authorization → Bool
apart a c = not (eqb a.head.label c.head.label)
    || (same_head a.head c.head && ltb (suc a.interval.end) c.interval.start)

-- a stands before c: by label, or as an earlier piece of the same
abbrev pub Precedes : Authorization → Authorization → Type 0
Precedes a c =
    (a.head.label < c.head.label)
    ⊎ ((a.head ≡ c.head)
    × (a.interval.start ≤ a.interval.end)
    × (suc (suc a.interval.end) ≤ c.interval.start))

abbrev pub Sorted : List Authorization → Type 0
Sorted xs = Pairwise Precedes xs

label_eq : (a c : Authorization) → a.head ≡ c.head → a.head.label ≡ c.head.label
label_eq a c e = ap (λ (h : Head). h.label) e

pub precedes_trans : (a c d : Authorization) → Precedes a c → Precedes c d → Precedes a d
precedes_trans a c d (inl p) (inl q) = inl (omega arith)
precedes_trans a c d (inl p) (inr q) = inl (omega (arith, label_eq c d q.0))
precedes_trans a c d (inr p) (inl q) = inl (omega (arith, label_eq a c p.0))
precedes_trans a c d (inr p) (inr q) = inr (p.0 ∙ q.0, p.1, omega (arith, p.2, q.1, q.2))

-- the two tests of 01 say that
pub tests-precedes : (a c : Authorization) → a.interval.start ≤ a.interval.end →
    rises a c && apart a c ≡ true →
    Precedes a c
tests-precedes a c l e =
    let w = and-true (rises a c) (apart a c) e in
    or_cases (ltb a.head.label c.head.label)
    (eqb a.head.label c.head.label && ltb a.interval.start c.interval.start) w.0
    (λ p. inl (true-le (suc a.head.label) c.head.label p))
    (λ p.
    let x = (and-true (eqb a.head.label c.head.label)
    (ltb a.interval.start c.interval.start) p).0 in
    let y = and-true (same_head a.head c.head) (ltb (suc a.interval.end) c.interval.start)
    (implied (eqb a.head.label c.head.label)
    (same_head a.head c.head && ltb (suc a.interval.end) c.interval.start) x w.1) in
    inr (
      same_head_eq a.head c.head y.0,
      l,
      true-le (suc (suc a.interval.end)) c.interval.start y.1,
    ))

pub precedes-rises : (a c : Authorization) → Precedes a c → rises a c ≡ true
precedes-rises a c (inl p) = rw (le-true (suc a.head.label) c.head.label p)
precedes-rises a c (inr p) = or_true_right (ltb a.head.label c.head.label)
    (eqb a.head.label c.head.label && ltb a.interval.start c.interval.start)
    (and_intro (eqb a.head.label c.head.label) (ltb a.interval.start c.interval.start)
    (eq_true a.head.label c.head.label (label_eq a c p.0))
    (le-true (suc a.interval.start) c.interval.start (omega (arith, p.1, p.2))))

pub precedes-apart : (a c : Authorization) → Precedes a c → apart a c ≡ true
precedes-apart a c (inl p) = rw (ne_false a.head.label c.head.label (omega arith))
precedes-apart a c (inr p) = or_true_right (not (eqb a.head.label c.head.label))
    (same_head a.head c.head && ltb (suc a.interval.end) c.interval.start)
    (and_intro (same_head a.head c.head) (ltb (suc a.interval.end) c.interval.start)
    (rw p.0 (same_head_self c.head))
    (le-true (suc (suc a.interval.end)) c.interval.start p.2))

-- pieces stand as what they are of
precedes_piece : (a x c y : Authorization) → Piece x a → Piece y c → Precedes a c → Precedes x y
precedes_piece a x c y p q (inl e) = inl (omega (arith, label_eq x a p.0, label_eq y c q.0))
precedes_piece a x c y p q (inr e) = inr (p.0 ∙ e.0 ∙ sym q.0, p.1, omega (arith, p.3, q.2, e.2))

pieces-from : (h : Head) (is : List Interval) (k : ℕ) → Separate k is → (x : Authorization) →
    Mem x (pieces h is) →
    (x.head ≡ h) × (k ≤ x.interval.start)
pieces-from h [] k a x m = absurd m.lower
pieces-from h (i ∷ is) k a x (inl e) = rw e (refl, a.0)
pieces-from h (i ∷ is) k a x (inr m) =
    let w = pieces-from h is (suc (suc i.end)) a.2 x m in (w.0, omega (arith, w.1, a.0, a.1))

pieces_sorted : (h : Head) (is : List Interval) (k : ℕ) → Separate k is → Sorted (pieces h is)
pieces_sorted h [] k a = tt
pieces_sorted h (i ∷ is) k a = (
  (λ x m. let w = pieces-from h is (suc (suc i.end)) a.2 x m in inr (sym w.0, a.1, w.1)),
  pieces_sorted h is (suc (suc i.end)) a.2,
)

-- what is kept stands in order, with an instant missing between two of one label
pub keep_sorted : (p : Head → ℕ → Bool) (xs : List Authorization) → Sorted xs → Sorted (keep p xs)
unfolding keep
keep_sorted p [] s = tt
keep_sorted p (a ∷ xs) s = pairwise_append Precedes (pieces a.head (intervals_of p a)) (keep p xs)
    (pieces_sorted a.head (intervals_of p a) a.interval.start
    (maximal_separate a.interval.start a.interval.end (p a.head)))
    (keep_sorted p xs s.1)
    (λ x y m n. let w = pieces_of p xs y n in
    precedes_piece a x w.0 y (piece_of_lem p a x m) w.2 (s.0 w.0 w.1))
