-- Loops over the bits of a mask, from each to the next. One law (`passed-or-now`) says which have been
-- passed; by it what holds of those (`ForBitsBelow`), which they are (`pass-turn`), and which of them a test
-- collects (`Collected`).
use mathlib.Core.Path.{◌≡◌, refl, sym, ap, ◌∙◌}
use mathlib.Core.Logic.{◌⊎◌, inl, inr, ⊎_elim}
use mathlib.Core.Bool.{Bool, true, false, ◌&&◌, ◌||◌, false≢true, or_self}
use Prim.Native.Nat.{ℕ, suc, ◌+◌, ◌%◌, ◌^◌, ◌≤◌, ◌<◌}
use native.Mathlib.Nat.{zero-div}
use native.Mathlib.Omega.{arith}
use lib.Dec.{eqb, ltb}
use Rattle.foundation.specs.Tests.{cases, agree, eq_true, true_eq, false_eq, le-true, true-le, false-le}
use Rattle.foundation.specs.Tests.{or_false, or_true_right, or_cases, and-true, and_intro}
use Rattle.foundation.specs.BitMasks.{bit, bit-inside}
use Rattle.masks.proofs.SingleBits.{NoneIn}

-- behind r comes r': what lies below r' lies below r, or is r
passed_or_now : (p : ℕ → Bool) (r r' i : ℕ) → ((i : ℕ) → r + 1 ≤ i → i < r' → p i ≡ false) → i < r' →
    p i ≡ true → (i < r) ⊎ (i ≡ r)
passed_or_now p r r' i z l e = cases (eqb i r)
    (λ y. inr (true_eq i r y))
    (λ y. let n = false_eq i r y in cases (ltb i r)
    (λ x. inl (true-le (suc i) r x))
    (λ x. let g = false-le (suc i) r x in absurd (false≢true (sym (z i (omega arith) l) ∙ e))))

-- ---- what holds of those passed

abbrev pub ForBitsBelow : ℕ → (ℕ → Type 0) → ℕ → Type 0
ForBitsBelow m P r = (i : ℕ) → i < r → bit i m ≡ true → P i

pub passed_start : (m : ℕ) (P : ℕ → Type 0) (r : ℕ) → NoneIn m 0 r → ForBitsBelow m P r
passed_start m P r z i l e = absurd (false≢true (sym (z i (omega arith) l) ∙ e))

-- r has its turn, and r' is the next
pub passed_turn : (m : ℕ) (P Q : ℕ → Type 0) (r r' : ℕ) → ForBitsBelow m P r → ((i : ℕ) → i < r → P i → Q i) →
    Q r → NoneIn m (r + 1) r' → ForBitsBelow m Q r'
passed_turn m P Q r r' d f q z i l e = ⊎_elim
    (λ h. f i h (d i h e))
    (λ y. rw y q)
    (passed_or_now (λ j. bit j m) r r' i z l e)

-- ---- which are passed

-- none before the first
pub pass_start : (p : ℕ → Bool) (q j : ℕ) → ((i : ℕ) → 0 ≤ i → i < q → p i ≡ false) → ltb j q && p j ≡ false
pass_start p q j z = cases (ltb j q)
    (λ e. rw e (z j (omega arith) (true-le (suc j) q e)))
    (λ e. rw e)

-- one more
pub pass_turn : (p : ℕ → Bool) (q n j : ℕ) → q < n → p q ≡ true →
    ((i : ℕ) → q + 1 ≤ i → i < n → p i ≡ false) → ltb j n && p j ≡ (ltb j q && p j) || eqb j q
pass_turn p q n j h e z = agree (ltb j n && p j) ((ltb j q && p j) || eqb j q)
    (λ y. let w = and-true (ltb j n) (p j) y in
    ⊎_elim (λ l. rw (le-true (suc j) q l, w.1)) (λ k. or_true_right (ltb j q && p j) (eqb j q)
    (eq_true j q k))
    (passed_or_now p q n j z (true-le (suc j) n w.0) w.1))
    (λ y. or_cases (ltb j q && p j) (eqb j q) y
    (λ a. let w = and-true (ltb j q) (p j) a in
    let l = true-le (suc j) q w.0 in and_intro (ltb j n) (p j) (le-true (suc j) n (omega arith)) w.1)
    (λ k. let i = true_eq j q k in and_intro (ltb j n) (p j) (le-true (suc j) n (omega arith)) (rw i e)))

-- all in the end
pub pass_end : (x q j : ℕ) → x < 18446744073709551616 → 64 ≤ q → ltb j q && bit j x ≡ bit j x
pass_end x q j h k = cases (ltb j q)
    (λ e. rw e)
    (λ e. let l = false-le (suc j) q e in
    rw e (cases (bit j x) (λ y. absurd (omega (arith, bit-inside 64 x j h y))) (λ y. sym y)))

-- one with what it brings
pub bring_one : (a e t u : Bool) → (e ≡ true → u ≡ t) → (a && t) || (e && u) ≡ (a || e) && t
bring_one true true t u f = ap (λ (x : Bool). t || x) (f refl) ∙ or_self t
bring_one false true t u f = f refl
bring_one a false t u f = or_false (a && t) ∙ ap (λ (x : Bool). x && t) (sym (or_false a))

pub or_under : (x e a b : Bool) → (x || (e && a)) || (e && b) ≡ x || (e && (a || b))
or_under true e a b = refl
or_under false true a b = refl
or_under false false a b = refl

-- ---- which of them a test collects

module _ (t : ℕ → Bool) (rest : ℕ) where
  -- m has those below r
  abbrev pub Collected : ℕ → ℕ → Type 0
  Collected r m = (i : ℕ) → bit i m ≡ ltb i r && bit i rest && t i

  pub collect_start : (r : ℕ) → ((i : ℕ) → 0 ≤ i → i < r → bit i rest ≡ false) → Collected r 0
  collect_start r z i = ap (λ (n : ℕ). eqb (n % 2) 1) (zero-div (2 ^ i))
      ∙ sym (ap (λ (x : Bool). x && t i) (pass_start (λ j. bit j rest) r i z))

  pub collect_turn : (r r' m m' : ℕ) (b : Bool) → Collected r m → bit r rest ≡ true → b ≡ t r →
      ((i : ℕ) → bit i m' ≡ bit i m || (eqb i r && b)) → r < r' →
      ((i : ℕ) → r + 1 ≤ i → i < r' → bit i rest ≡ false) → Collected r' m'
  collect_turn r r' m m' b d o e s h z i =
      s i ∙ ap (λ (x : Bool). x || (eqb i r && b)) (d i)
      ∙ bring_one (ltb i r && bit i rest) (eqb i r) (t i) b (λ y. e ∙ ap t (sym (true_eq i r y)))
      ∙ ap (λ (x : Bool). x && t i) (sym (pass_turn (λ j. bit j rest) r r' i h o z))
