-- Bits put into words: the bits of one rule more (`gather-turn`), and bits joined to a range of words
-- (`spread-turn`) or to each of the first (`join-turn`).
use mathlib.Core.Path.{◌≡◌, refl, sym, ap, ◌∙◌}
use mathlib.Core.Logic.{◌⊎◌, inl, inr, ⊎_elim}
use mathlib.Core.Bool.{Bool, true, false, ◌&&◌, ◌||◌}
use mathlib.Core.List.{List}
use Prim.Native.Nat.{ℕ, suc, ◌+◌, ◌*◌, ◌≤◌, ◌<◌}
use native.Mathlib.Omega.{arith}
use lib.Dec.{eqb, leb, ltb}
use Rattle.foundation.specs.Tests.{pick, cases, agree, true_eq, false_eq, le-true, le-false, true-le}
use Rattle.foundation.specs.Tests.{or_false}
use Rattle.foundation.specs.BitMasks.{bit, bit-zero}
use Rattle.outlines.specs.LeftMasks.{object_code, subject_code, mode_code_of, sign_code}
use Rattle.outlines.specs.LeftMasks.{object_word, subject_word, mode_word, in_word, CodesPlaced}
use Rattle.outlines.specs.Feed.{right_mode_word}

-- four tests one after the other
pub four-joined : (x t a b d e : Bool) →
    (((x || (t && a)) || (t && b)) || (t && d)) || (t && e) ≡ x || (t && (((a || b) || d) || e))
four-joined x false a b d e = or_false _ ∙ or_false _ ∙ or_false _
four-joined true true a b d e = refl
four-joined false true a b d e = refl

next_below : (i r : ℕ) → (r ≡ i → ⊥) → ltb r (i + 1) ≡ ltb r i
next_below i r z = agree (ltb r (i + 1)) (ltb r i)
    (λ y. let l = true-le (suc r) (i + 1) y in le-true (suc r) i (omega arith))
    (λ y. let l = true-le (suc r) i y in le-true (suc r) (i + 1) (omega arith))

-- the rules before the i-th, and the i-th
pub gather_turn : (p : ℕ → Bool) (i r : ℕ) → (ltb r i && p r) || (eqb r i && p i) ≡ ltb r (i + 1) && p r
gather_turn p i r = cases (eqb r i)
    (λ q. let z = true_eq r i q in
    let f : ltb i i ≡ false = le-false (suc i) i (omega arith) in
    let t : ltb i (i + 1) ≡ true = le-true (suc i) (i + 1) (omega arith) in
    rw (q, z, f, t))
    (λ q. rw (q, next_below i r (false_eq r i q)) (or_false (ltb r i && p r)))

pub gather_start : (p : Bool) (r x : ℕ) → x ≡ 0 → bit r x ≡ ltb r 0 && p
gather_start p r x e = ap (bit r) e ∙ bit-zero r ∙ sym (rw (le-false (suc r) 0 (omega arith)))

-- a range of words, and the next word
pub spread_turn : (from w j : ℕ) (x v : Bool) → from ≤ w →
    (x || (leb from j && ltb j w && v)) || (eqb j w && v) ≡ x || (leb from j && ltb j (w + 1) && v)
spread_turn from w j x v h = cases (eqb j w)
    (λ q. let z = true_eq j w q in
    let f : ltb w w ≡ false = le-false (suc w) w (omega arith) in
    let t : ltb w (w + 1) ≡ true = le-true (suc w) (w + 1) (omega arith) in
    let l : leb from w ≡ true = le-true from w h in
    rw (q, z, f, t, l) (ap (λ (b : Bool). b || v) (or_false x)))
    (λ q. rw (q, next_below w j (false_eq j w q)) (or_false (x || (leb from j && ltb j w && v))))

pub spread_start : (from j : ℕ) (x v : Bool) → x ≡ x || (leb from j && ltb j from && v)
spread_start from j x v = cases (leb from j)
    (λ q. let l = true-le from j q in
    rw (q, le-false (suc j) from (omega arith)) (sym (or_false x)))
    (λ q. rw q (sym (or_false x)))

-- the first words are changed, and the next one
pub join-turn : (f : ℕ → ℕ) (i w v x y : ℕ) → v ≡ f i → x ≡ pick (ltb w i) (f w) y →
    pick (eqb w i) v x ≡ pick (ltb w (i + 1)) (f w) y
join-turn f i w v x y e d = cases (eqb w i)
    (λ q. let z = true_eq w i q in
    let t : ltb w (i + 1) ≡ true = le-true (suc w) (i + 1) (omega arith) in
    rw (q, t) (e ∙ ap f (sym z)))
    (λ q. rw (q, next_below i w (false_eq w i q)) d)

-- ---- the words of a rule

pub in_word_lem : (sides : List ℕ) (i w o s m g : ℕ) → o ≡ object_word (object_code sides i) →
    s ≡ subject_word (subject_code sides i) → m ≡ mode_word (mode_code_of sides i) (sign_code sides i) →
    g ≡ 146 + sign_code sides i → ((eqb w o || eqb w s) || eqb w m) || eqb w g ≡ in_word sides i w
unfolding in_word
in_word_lem sides i w o s m g a b d e = rw (a, b, d, e)

module _ (sides : List ℕ) (r : ℕ) (p : CodesPlaced sides r) where
  -- the words of the object, of the subject, and of the mode
  pub object_cases : ((object_code sides r ≡ 255) × (object_word (object_code sides r) ≡ 151))
      ⊎ ((object_code sides r < 65) × (object_word (object_code sides r) ≡ object_code sides r))
  object_cases = cases (eqb (object_code sides r) 255)
      (λ e. inl (true_eq (object_code sides r) 255 e, rw e))
      (λ e. inr (p.object (false_eq (object_code sides r) 255 e), rw e))

  pub subject_cases : ((subject_code sides r ≡ 255) × (subject_word (subject_code sides r) ≡ 148))
      ⊎ ((subject_code sides r < 65) × (subject_word (subject_code sides r) ≡ 65 + subject_code sides r))
  subject_cases = cases (eqb (subject_code sides r) 255)
      (λ e. inl (true_eq (subject_code sides r) 255 e, rw e))
      (λ e. inr (p.subject (false_eq (subject_code sides r) 255 e), rw e))

  pub mode_cases : ((mode_code_of sides r ≡ 255)
      × (mode_word (mode_code_of sides r) (sign_code sides r) ≡ 149 + sign_code sides r))
      ⊎ ((mode_code_of sides r < 8)
      × (mode_word (mode_code_of sides r) (sign_code sides r) ≡ 130 +
      (mode_code_of sides r + 8 * sign_code sides r)))
  mode_cases = cases (eqb (mode_code_of sides r) 255)
      (λ e. inl (true_eq (mode_code_of sides r) 255 e, rw e))
      (λ e. inr (p.mode (false_eq (mode_code_of sides r) 255 e), rw e))

  pub object-below : object_word (object_code sides r) < 152
  object-below = ⊎_elim (λ w. omega arith) (λ w. omega arith) object_cases

  pub subject-below : subject_word (subject_code sides r) < 152
  subject-below = ⊎_elim (λ w. omega arith) (λ w. omega arith) subject_cases

  pub mode-below : mode_word (mode_code_of sides r) (sign_code sides r) < 152
  mode-below = ⊎_elim (λ w. omega arith) (λ w. omega arith) mode_cases

  pub depends_below : (g : ℕ) → g < 2 → right_mode_word (mode_code_of sides r) g < 152
  depends_below g h = cases (eqb (mode_code_of sides r) 255)
      (λ e. rw e (omega arith))
      (λ e. let z = p.mode (false_eq (mode_code_of sides r) 255 e) in rw e (omega arith))
