-- The authorizations for an access say what all say (`chosen-held`), change at their own marks only
-- (`among-onward`), and have few intervals (`among-few`).
use mathlib.Core.Path.{◌≡◌, refl, sym, ap, ap₂, ◌∙◌, fun_ext}
use mathlib.Core.Bool.{Bool, true, false, not, ◌&&◌, ◌||◌, beq}
use mathlib.Core.List.{List, [], ◌∷◌, append-nil}
use Prim.Native.Nat.{ℕ, ◌+◌, ◌*◌, ◌≤◌, ◌<◌}
use native.Mathlib.Numerals.{add-one}
use native.Mathlib.Omega.{arith}
use lib.Dec.{eqb}
use lib.ListN.{length, take, get_or, length-map}
use lib.Seq.{length-take-le}
use Rattle.foundation.specs.Tests.{cases, or_false, true_eq, eq_true, ne_false, false_eq}
use Rattle.foundation.specs.Tests.{and_yes}
use Rattle.foundation.specs.Lists.{anyb, any_append, keep_if}
use Rattle.foundation.specs.Intervals.{in_interval, maximal}
use Rattle.foundation.specs.Marks.{Steady, clear_both, next, next_above, next_le, next_clear}
use Rattle.foundation.specs.MaximalCount.{maximal_count}
use Rattle.model.specs.declared.Access.{Access}
use Rattle.model.specs.declared.Authorization.{Authorization}
use Rattle.model.specs.Support.{live}
use Rattle.model.specs.SupportMarks.{interval_steady}
use Rattle.model.proofs.HoldsSteady.{marks-length}
use Rattle.model.specs.Means.{boundaries, marks_of}
use Rattle.model.specs.Rules.{fits, asked}
use Rattle.relevance.specs.declared.Chosen.{Chosen}
use Rattle.relevance.specs.Chosen.{authorization_at, picked, marks_for}
use Rattle.relevance.proofs.PickedFacts.{picked_none, picked_more}
use Rattle.direct.specs.Direct.{held_directly}
use Rattle.direct.specs.Among.{is_for, signed_at, held_among}
use Rattle.direct.proofs.FoundLoop.{by_sign, live-step, is_positive, is_negative_lem}

-- ---- an authorization is for the access

-- numbers next to each other are equal if both are
side_by_side : (a b c d : ℕ) → a < 65536 → c < 65536 →
    eqb (a + 65536 * b) (c + 65536 * d) ≡ eqb a c && eqb b d
side_by_side a b c d h k = cases (eqb a c)
    (λ e. cases (eqb b d)
    (λ f. let p = true_eq a c e in let q = true_eq b d f in
    rw (e, f) (eq_true (a + 65536 * b) (c + 65536 * d) (omega arith)))
    (λ f. let q = false_eq b d f in
    rw (e, f) (ne_false (a + 65536 * b) (c + 65536 * d) (λ z. q (omega arith)))))
    (λ e. let p = false_eq a c e in
    rw e (ne_false (a + 65536 * b) (c + 65536 * d) (λ z. p (omega arith))))

turned : (s m o : Bool) → s && o && m ≡ s && m && o
turned true true o = and_yes o
turned true false true = refl
turned true false false = refl
turned false m o = refl

pub for_sides : (x : Access) (a : Authorization) → a.head.subject < 65536 → x.subject < 65536 →
    eqb (a.head.subject + 65536 * a.head.object) (x.subject + 65536 * x.object)
    && eqb a.head.mode x.mode ≡ is_for x a
for_sides x a h k =
    let s = eqb a.head.subject x.subject in
    let m = eqb a.head.mode x.mode in
    let o = eqb a.head.object x.object in
    ap (λ (b : Bool). b && m)
    (side_by_side a.head.subject a.head.object x.subject x.object h k)
    ∙ turned s m o

-- ---- those for the access say what all say

among-live : (x : Access) (t : ℕ) (negative : Bool) (xs : List Authorization) →
    anyb (signed_at t negative) (keep_if (is_for x) xs) ≡ anyb (fits (asked x negative)) (live t xs)
among-live x t negative [] = refl
among-live x t negative (a ∷ xs) =
    let rest = among-live x t negative xs in
    let signed = beq a.head.negative negative in
    let here : Bool = in_interval a.interval t in
    let others = anyb (fits (asked x negative)) (live t xs) in
    let step : anyb (fits (asked x negative)) (live t (a ∷ xs)) ≡ (is_for x a && here && signed) || others =
    live-step (asked x negative) t a xs ∙ ap (λ (b : Bool). b || others) (by_sign x t negative a) in
    cases (is_for x a)
    (λ e. rw e (ap (λ (b : Bool). (here && signed) || b) rest)
    ∙ sym (step ∙ ap (λ (b : Bool). (b && here && signed) || others) e))
    (λ e. rw e rest ∙ sym (step ∙ ap (λ (b : Bool). (b && here && signed) || others) e))

pub chosen_held : (x : Access) (xs ys : List Authorization) → ys ≡ keep_if (is_for x) xs →
    held_among ys ≡ held_directly xs x
chosen_held x xs ys e = ap held_among e ∙ fun_ext (λ t. ap₂ (λ (p q : Bool). p && not q)
    (among-live x t false xs) (among-live x t true xs))

-- ---- from mark to mark

signed_steady : (negative : Bool) (ys : List Authorization) →
    Steady (λ t. anyb (signed_at t negative) ys) (marks_of ys)
signed_steady negative [] a t h e = refl
signed_steady negative (y ∷ ys) a t h e =
    let p = clear_both (boundaries y.interval) (marks_of ys) a t e in
    ap₂ (λ (b c : Bool). (b && beq y.head.negative negative) || c)
    (interval_steady y.interval a t h p.0) (signed_steady negative ys a t h p.1)

among_steady : (ys : List Authorization) → Steady (held_among ys) (marks_of ys)
among_steady ys a t h e = ap₂ (λ (p q : Bool). p && not q) (signed_steady false ys a t h e)
    (signed_steady true ys a t h e)

-- the marks where no rule matters
abbrev pub few : ℕ → Chosen
few n = record { authorizations = n; rules = 0; needed = 0 }

ruleless_marks : (lines which body : List ℕ) (n : ℕ) →
    marks_for lines which body (few n) ≡ marks_of (picked lines which n)
unfolding marks_for
ruleless_marks lines which body n = append-nil (marks_of (picked lines which n))

module _ (lines which body : List ℕ) (n t m : ℕ)
    (e : m ≡ next t (marks_for lines which body (few n)) 4294967296) where
  abbrev ms : List ℕ
  ms = marks_of (picked lines which n)

  mark : m ≡ next t ms 4294967296
  mark = e ∙ ap (λ (l : List ℕ). next t l 4294967296) (ruleless_marks lines which body n)

  -- the next mark is behind t, and none is behind 2^32
  pub among_ahead : t < 4294967296 → (t < m) × (m ≤ 4294967296)
  among_ahead h =
      (omega (arith, mark, next_above t ms 4294967296 h), omega (arith, mark, next_le t ms 4294967296))

  -- up to it the answer does not change
  pub among-onward : (u : ℕ) → t ≤ u → u < m →
      held_among (picked lines which n) u ≡ held_among (picked lines which n) t
  among-onward u h k = among_steady (picked lines which n) t u h
      (next_clear t ms 4294967296 u (omega (arith, mark)))

picked-length : (lines which : List ℕ) (n : ℕ) → n ≤ length which → length (picked lines which n) ≡ n
unfolding picked
picked-length lines which n h = length-map (take n which) (authorization_at lines) ∙ length-take-le n which h

-- there are at most as many intervals as authorizations, and one
pub among-few : (lines which : List ℕ) (n e : ℕ) → n ≤ length which →
    length (maximal 0 e (held_among (picked lines which n))) ≤ n + 1
among-few lines which n e h =
    let ys = picked lines which n in
    omega (
      arith,
      maximal_count (held_among ys) (marks_of ys) (among_steady ys) e,
      marks-length ys,
      picked-length lines which n h,
    )

-- ---- one more is asked

module _ (lines which : List ℕ) (t : ℕ) where
  -- what the first i say
  abbrev pub found_in : Bool → ℕ → Bool
  found_in negative i = anyb (signed_at t negative) (picked lines which i)

  pub found_none : (negative : Bool) → false ≡ found_in negative 0
  found_none negative = sym (ap (anyb (signed_at t negative)) (picked_none lines which))

  module _ (i : ℕ) (a : Authorization) (h : i < length which)
      (read : a ≡ authorization_at lines (get_or which i 0)) (l : Bool) (e : l ≡ in_interval a.interval t)
    where
      more : (negative v : Bool) → v ≡ signed_at t negative a →
          (g : Bool) → g ≡ found_in negative i → g || v ≡ found_in negative (i + 1)
      more negative v q g f =
          let next = authorization_at lines (get_or which i 0) in
          ap₂ (λ (b c : Bool). b || c) f (q ∙ ap (signed_at t negative) read)
          ∙ ap (λ (b : Bool). found_in negative i || b) (sym (or_false (signed_at t negative next)))
          ∙ sym (ap (found_in negative) (add-one i)
          ∙ ap (anyb (signed_at t negative)) (picked_more lines which i h)
          ∙ any_append (signed_at t negative) (picked lines which i) (next ∷ []))

      pub granted_more : (g : Bool) → g ≡ found_in false i →
          g || (l && not a.head.negative) ≡ found_in false (i + 1)
      granted_more = more false (l && not a.head.negative) (λ k. e k && is_positive a.head.negative k)

      pub denied_more : (g : Bool) → g ≡ found_in true i → g || (l && a.head.negative) ≡ found_in true (i + 1)
      denied_more = more true (l && a.head.negative) (λ k. e k && is_negative_lem a.head.negative k)
