-- The words that a rule is in, by its codes (`in-object`, `in-starred`, `in-subject`, `in-mode`, `in-sign`),
-- and the masks once starred subjects and modes are spread (`written`).
use mathlib.Core.Path.{◌≡◌, sym, ap₂, ◌∙◌}
use mathlib.Core.Logic.{◌⊎◌, inl, inr, ⊎_elim}
use mathlib.Core.Bool.{Bool, true, ◌&&◌, ◌||◌}
use mathlib.Core.List.{List}
use Prim.Native.Nat.{ℕ, zero, suc, ◌+◌, ◌*◌, ◌≤◌, ◌<◌}
use native.Mathlib.Omega.{arith}
use lib.Dec.{eqb, leb, ltb}
use lib.ListN.{get_or}
use Rattle.foundation.specs.Tests.{cases, agree, true_eq, eq_true, le-true, and_or}
use Rattle.foundation.specs.Tests.{le-false}
use Rattle.foundation.specs.Tests.{true-le, and-true, and_intro, or_false, or_cases}
use Rattle.foundation.specs.Tests.{or_intro_left, or_true_right}
use Rattle.foundation.specs.BitMasks.{bit}
use Rattle.outlines.specs.LeftMasks.{object_code, subject_code, mode_code_of, sign_code}
use Rattle.outlines.specs.LeftMasks.{object_word, subject_word, mode_word, in_word, CodesPlaced}
use Rattle.outlines.specs.LeftMasks.{WrittenMasks}
use Rattle.outlines.proofs.StandingRules.{under}
use Rattle.outlines.proofs.MaskWords.{object_cases, subject_cases, mode_cases}

module _ (sides : List ℕ) (r : ℕ) where
  abbrev object : ℕ
  object = object_word (object_code sides r)

  abbrev subject : ℕ
  subject = subject_word (subject_code sides r)

  abbrev mode : ℕ
  mode = mode_word (mode_code_of sides r) (sign_code sides r)

  abbrev sign : ℕ
  sign = sign_code sides r

  word_elim : {X : Type 0} (w : ℕ) → in_word sides r w ≡ true → (w ≡ object → X) → (w ≡ subject → X) →
      (w ≡ mode → X) → (w ≡ 146 + sign → X) → X
  unfolding in_word
  word_elim w e a b d f =
      or_cases (eqb w object || eqb w subject || eqb w mode) (eqb w (146 + sign)) e
      (λ p. or_cases (eqb w object || eqb w subject) (eqb w mode) p
      (λ q. or_cases (eqb w object) (eqb w subject) q
      (λ z. a (true_eq w object z)) (λ z. b (true_eq w subject z)))
      (λ z. d (true_eq w mode z)))
      (λ z. f (true_eq w (146 + sign) z))

  word-object : (w : ℕ) → w ≡ object → in_word sides r w ≡ true
  unfolding in_word
  word-object w z = rw (eq_true w object z)

  word-subject : (w : ℕ) → w ≡ subject → in_word sides r w ≡ true
  unfolding in_word
  word-subject w z =
      or_intro_left (eqb w object || eqb w subject || eqb w mode) (eqb w (146 + sign))
      (or_intro_left (eqb w object || eqb w subject) (eqb w mode)
      (or_true_right (eqb w object) (eqb w subject) (eq_true w subject z)))

  word-mode : (w : ℕ) → w ≡ mode → in_word sides r w ≡ true
  unfolding in_word
  word-mode w z =
      or_intro_left (eqb w object || eqb w subject || eqb w mode) (eqb w (146 + sign))
      (or_true_right (eqb w object || eqb w subject) (eqb w mode) (eq_true w mode z))

  word-sign : (w : ℕ) → w ≡ 146 + sign → in_word sides r w ≡ true
  unfolding in_word
  word-sign w z = or_true_right (eqb w object || eqb w subject || eqb w mode) (eqb w (146 + sign))
      (eq_true w (146 + sign) z)

  module _ (p : CodesPlaced sides r) where
    -- the words of objects, of subjects, and of modes are apart from the others
    not-object : (w : ℕ) → 65 ≤ w → (w ≡ 151 → ⊥) → w ≡ object → ⊥
    not-object w h k z = ⊎_elim (λ a. omega arith) (λ a. omega arith) (object_cases sides r p)

    not-subject : (w : ℕ) → (w < 65) ⊎ ((130 ≤ w) × (w ≡ 148 → ⊥)) → w ≡ subject → ⊥
    not-subject w h z = ⊎_elim
        (λ a. ⊎_elim (λ l. omega arith) (λ l. omega arith) h)
        (λ a. ⊎_elim (λ l. omega arith) (λ l. omega arith) h)
        (subject_cases sides r p)

    not-mode : (w : ℕ) → (w < 130) ⊎ ((146 ≤ w) × (w < 149)) → w ≡ mode → ⊥
    not-mode w h z = ⊎_elim
        (λ a. ⊎_elim (λ l. omega arith) (λ l. omega arith) h)
        (λ a. ⊎_elim (λ l. omega arith) (λ l. omega arith) h)
        (mode_cases sides r p)

    abbrev objected : ℕ
    objected = object_code sides r

    pub in_object : (o : ℕ) → o < 65 → in_word sides r o ≡ eqb objected o
    in_object o h = agree (in_word sides r o) (eqb objected o)
        (λ e. word_elim o e
        (λ z. ⊎_elim (λ a. absurd (omega arith)) (λ a. eq_true objected o (omega arith))
        (object_cases sides r p))
        (λ z. absurd (not-subject o (inl h) z))
        (λ z. absurd (not-mode o (inl (omega arith)) z))
        (λ z. absurd (omega arith)))
        (λ e. let y = true_eq objected o e in word-object o
        (⊎_elim (λ a. absurd (omega arith)) (λ a. omega arith) (object_cases sides r p)))

    pub in_starred : in_word sides r 151 ≡ eqb objected 255
    in_starred = agree (in_word sides r 151) (eqb objected 255)
        (λ e. word_elim 151 e
        (λ z. ⊎_elim (λ a. eq_true objected 255 a.0) (λ a. absurd (omega arith)) (object_cases sides r p))
        (λ z. absurd (not-subject 151 (inr (omega arith, λ y. omega arith)) z))
        (λ z. ⊎_elim (λ a. absurd (omega arith)) (λ a. absurd (omega arith)) (mode_cases sides r p))
        (λ z. absurd (omega arith)))
        (λ e. let y = true_eq objected 255 e in word-object 151
        (⊎_elim (λ a. sym a.1) (λ a. absurd (omega arith)) (object_cases sides r p)))

    pub in_sign : (g : ℕ) → g < 2 → in_word sides r (146 + g) ≡ eqb sign g
    in_sign g h = agree (in_word sides r (146 + g)) (eqb sign g)
        (λ e. word_elim (146 + g) e
        (λ z. absurd (not-object (146 + g) (omega arith) (λ y. omega arith) z))
        (λ z. absurd (not-subject (146 + g) (inr (omega arith, λ y. omega arith)) z))
        (λ z. absurd (not-mode (146 + g) (inr (omega arith, omega arith)) z))
        (λ z. eq_true sign g (omega arith)))
        (λ e. let z = true_eq sign g e in word-sign (146 + g) (omega arith))

    abbrev code : ℕ
    code = subject_code sides r

    pub in_subject : (s : ℕ) → s < 65 →
        in_word sides r (65 + s) || in_word sides r 148 ≡ eqb code 255 || eqb code s
    in_subject s h = agree (in_word sides r (65 + s) || in_word sides r 148) (eqb code 255 || eqb code s)
        (λ e. or_cases (in_word sides r (65 + s)) (in_word sides r 148) e
        (λ q. word_elim (65 + s) q
        (λ z. absurd (not-object (65 + s) (omega arith) (λ y. omega arith) z))
        (λ z. ⊎_elim (λ a. absurd (omega arith))
        (λ a. or_true_right (eqb code 255) (eqb code s) (eq_true code s (omega arith)))
        (subject_cases sides r p))
        (λ z. absurd (not-mode (65 + s) (inl (omega arith)) z))
        (λ z. absurd (omega arith)))
        (λ q. word_elim 148 q
        (λ z. absurd (not-object 148 (omega arith) (λ y. omega arith) z))
        (λ z. ⊎_elim (λ a. or_intro_left (eqb code 255) (eqb code s) (eq_true code 255 a.0))
        (λ a. absurd (omega arith)) (subject_cases sides r p))
        (λ z. absurd (not-mode 148 (inr (omega arith, omega arith)) z))
        (λ z. absurd (omega arith))))
        (λ e. or_cases (eqb code 255) (eqb code s) e
        (λ q. let y = true_eq code 255 q in
        or_true_right (in_word sides r (65 + s)) (in_word sides r 148) (word-subject 148
        (⊎_elim (λ a. sym a.1) (λ a. absurd (omega arith)) (subject_cases sides r p))))
        (λ q. let y = true_eq code s q in
        or_intro_left (in_word sides r (65 + s)) (in_word sides r 148) (word-subject (65 + s)
        (⊎_elim (λ a. absurd (omega arith)) (λ a. omega arith) (subject_cases sides r p)))))

    abbrev moded : ℕ
    moded = mode_code_of sides r

    pub in_mode : (m g : ℕ) → m < 8 → g < 2 → in_word sides r (130 + (m + 8 * g)) || in_word sides r (149 + g)
        ≡ eqb sign g && (eqb moded 255 || eqb moded m)
    in_mode m g h k =
        let w : ℕ = 130 + (m + 8 * g) in
        agree (in_word sides r w || in_word sides r (149 + g)) (eqb sign g && (eqb moded 255 || eqb moded m))
        (λ e. or_cases (in_word sides r w) (in_word sides r (149 + g)) e
        (λ q. word_elim w q
        (λ z. absurd (not-object w (omega arith) (λ y. omega arith) z))
        (λ z. absurd (not-subject w (inr (omega arith, λ y. omega arith)) z))
        (λ z. ⊎_elim (λ a. absurd (omega arith))
        (λ a. and_intro (eqb sign g) (eqb moded 255 || eqb moded m) (eq_true sign g (omega arith))
        (or_true_right (eqb moded 255) (eqb moded m) (eq_true moded m (omega arith))))
        (mode_cases sides r p))
        (λ z. absurd (omega arith)))
        (λ q. word_elim (149 + g) q
        (λ z. absurd (not-object (149 + g) (omega arith) (λ y. omega arith) z))
        (λ z. absurd (not-subject (149 + g) (inr (omega arith, λ y. omega arith)) z))
        (λ z. ⊎_elim
        (λ a. and_intro (eqb sign g) (eqb moded 255 || eqb moded m) (eq_true sign g (omega arith))
        (or_intro_left (eqb moded 255) (eqb moded m) (eq_true moded 255 a.0)))
        (λ a. absurd (omega arith))
        (mode_cases sides r p))
        (λ z. absurd (omega arith))))
        (λ e. let v = and-true (eqb sign g) (eqb moded 255 || eqb moded m) e in
        let s = true_eq sign g v.0 in
        or_cases (eqb moded 255) (eqb moded m) v.1
        (λ q. let y = true_eq moded 255 q in
        or_true_right (in_word sides r w) (in_word sides r (149 + g)) (word-mode (149 + g)
        (⊎_elim (λ a. omega arith) (λ a. absurd (omega arith)) (mode_cases sides r p))))
        (λ q. let y = true_eq moded m q in
        or_intro_left (in_word sides r w) (in_word sides r (149 + g)) (word-mode w
        (⊎_elim (λ a. absurd (omega arith)) (λ a. omega arith) (mode_cases sides r p)))))

-- ---- words of a range

pub range_in : (a b w : ℕ) (x v : Bool) → a ≤ w → w < b → x || (leb a w && ltb w b && v) ≡ x || v
range_in a b w x v h k = rw (le-true a w h, le-true (suc w) b k)

pub range_out : (a b w : ℕ) (x v : Bool) → (w < a) ⊎ (b ≤ w) → x || (leb a w && ltb w b && v) ≡ x
range_out a b w x v (inl h) = rw (le-false a w h) (or_false x)
range_out a b w x v (inr h) = cases (leb a w)
    (λ e. rw (e, le-false (suc w) b (omega arith)) (or_false x))
    (λ e. rw e (or_false x))

module _ (n subjects : ℕ) (sides : List ℕ) (placed : (r : ℕ) → r < n → CodesPlaced sides r)
    (few : subjects ≤ 65)
    (l₀ l₁ l₂ l₃ : List ℕ)
    (gathered : (w r : ℕ) → bit r (get_or l₀ w 0) ≡ ltb r n && in_word sides r w)
    (first : (w r : ℕ) → bit r (get_or l₁ w 0)
    ≡ bit r (get_or l₀ w 0) || (leb 65 w && ltb w (65 + subjects) && bit r (get_or l₀ 148 0)))
    (second : (w r : ℕ) → bit r (get_or l₂ w 0)
    ≡ bit r (get_or l₁ w 0) || (leb 130 w && ltb w 138 && bit r (get_or l₁ 149 0)))
    (third : (w r : ℕ) → bit r (get_or l₃ w 0)
    ≡ bit r (get_or l₂ w 0) || (leb 138 w && ltb w 146 && bit r (get_or l₂ 150 0))) where
  -- where the three leave a word alone
  first_out : (w r : ℕ) → (w < 65) ⊎ (130 ≤ w) → bit r (get_or l₁ w 0) ≡ bit r (get_or l₀ w 0)
  first_out w r h = first w r ∙ range_out 65 (65 + subjects) w (bit r (get_or l₀ w 0)) (bit r (get_or l₀ 148 0))
      (⊎_elim (λ a. inl a) (λ a. inr (omega arith)) h)

  second_out : (w r : ℕ) → (w < 130) ⊎ (138 ≤ w) → bit r (get_or l₂ w 0) ≡ bit r (get_or l₁ w 0)
  second_out w r h = second w r ∙ range_out 130 138 w (bit r (get_or l₁ w 0)) (bit r (get_or l₁ 149 0)) h

  third_out : (w r : ℕ) → (w < 138) ⊎ (146 ≤ w) → bit r (get_or l₃ w 0) ≡ bit r (get_or l₂ w 0)
  third_out w r h = third w r ∙ range_out 138 146 w (bit r (get_or l₂ w 0)) (bit r (get_or l₂ 150 0)) h

  alone : (w r : ℕ) → (w < 65) ⊎ (146 ≤ w) → bit r (get_or l₃ w 0) ≡ ltb r n && in_word sides r w
  alone w r h =
      third_out w r (⊎_elim (λ a. inl (omega arith)) (λ a. inr a) h)
      ∙ second_out w r (⊎_elim (λ a. inl (omega arith)) (λ a. inr (omega arith)) h)
      ∙ first_out w r (⊎_elim (λ a. inl a) (λ a. inr (omega arith)) h) ∙ gathered w r

  -- two words of the start, joined
  two : (v w r : ℕ) → bit r (get_or l₀ v 0) || bit r (get_or l₀ w 0)
      ≡ ltb r n && (in_word sides r v || in_word sides r w)
  two v w r = ap₂ (λ (a b : Bool). a || b) (gathered v r) (gathered w r)
      ∙ and_or (ltb r n) (in_word sides r v) (in_word sides r w)

  subject_word_lem : (s r : ℕ) → s < subjects →
      bit r (get_or l₃ (65 + s) 0) ≡ ltb r n && (in_word sides r (65 + s) || in_word sides r 148)
  subject_word_lem s r h =
      third_out (65 + s) r (inl (omega arith)) ∙ second_out (65 + s) r (inl (omega arith)) ∙ first (65 + s) r
      ∙ range_in 65 (65 + subjects) (65 + s) (bit r (get_or l₀ (65 + s) 0)) (bit r (get_or l₀ 148 0))
      (omega arith)
      (omega arith)
      ∙ two (65 + s) 148 r

  mode_word_lem : (m g r : ℕ) → m < 8 → g < 2 → bit r (get_or l₃ (130 + (m + 8 * g)) 0)
      ≡ ltb r n && (in_word sides r (130 + (m + 8 * g)) || in_word sides r (149 + g))
  mode_word_lem m zero r h k =
      let w : ℕ = 130 + (m + 8 * 0) in
      third_out w r (inl (omega arith)) ∙ second w r
      ∙ range_in 130 138 w (bit r (get_or l₁ w 0)) (bit r (get_or l₁ 149 0)) (omega arith) (omega arith)
      ∙ ap₂ (λ (a b : Bool). a || b) (first_out w r (inr (omega arith))) (first_out 149 r (inr (omega arith)))
      ∙ two w 149 r
  mode_word_lem m (suc zero) r h k =
      let w : ℕ = 130 + (m + 8 * 1) in
      third w r
      ∙ range_in 138 146 w (bit r (get_or l₂ w 0)) (bit r (get_or l₂ 150 0)) (omega arith) (omega arith)
      ∙ ap₂ (λ (a b : Bool). a || b)
      (second_out w r (inr (omega arith)) ∙ first_out w r (inr (omega arith)))
      (second_out 150 r (inr (omega arith)) ∙ first_out 150 r (inr (omega arith)))
      ∙ two w 150 r
  mode_word_lem m (suc (suc g)) r h k = absurd (omega arith)

  pub written : WrittenMasks n subjects sides l₃
  written = record {
    sided = record {
      subject = λ s r z h. subject_word_lem s r h
          ∙ under (ltb r n) (in_word sides r (65 + s) || in_word sides r 148)
          (eqb (subject_code sides r) 255 || eqb (subject_code sides r) s)
          (λ e. in_subject sides r (placed r (true-le (suc r) n e)) s (omega arith));
      mode = λ m g r h k. mode_word_lem m g r h k
          ∙ under (ltb r n) (in_word sides r (130 + (m + 8 * g)) || in_word sides r (149 + g))
          (eqb (sign_code sides r) g && (eqb (mode_code_of sides r) 255 || eqb (mode_code_of sides r) m))
          (λ e. in_mode sides r (placed r (true-le (suc r) n e)) m g h k);
      sign = λ g r h. alone (146 + g) r (inr (omega arith))
          ∙ under (ltb r n) (in_word sides r (146 + g)) (eqb (sign_code sides r) g)
          (λ e. in_sign sides r (placed r (true-le (suc r) n e)) g h);
    };
    object = λ o r z h. alone o r (inl h) ∙ under (ltb r n) (in_word sides r o) (eqb (object_code sides r) o)
        (λ e. in_object sides r (placed r (true-le (suc r) n e)) o h);
    starred = λ r. alone 151 r (inr (omega arith))
        ∙ under (ltb r n) (in_word sides r 151) (eqb (object_code sides r) 255)
        (λ e. in_starred sides r (placed r (true-le (suc r) n e)));
  }
