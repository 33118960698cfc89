-- Numbers as bytes, the least byte first, and records of any width. The laws are over the width.
use Rattle.std.specs.Prelude.{◌≡◌, refl, ℕ, zero, suc, ◌+◌, ◌*◌, ◌/◌, ◌%◌, ◌^◌, ◌<◌, Bool, true, false, ◌&&◌, List, [], ◌∷◌, ◌++◌, eqb, length, drop}
use Rattle.std.proofs.Common.{ap, ap₂, ◌∙◌, subst, inl, inr, mul_comm, arith, append_assoc, drop_at}
use Rattle.std.proofs.Math.Nat.{pow-succ'}
use Rattle.std.proofs.lemmas.Bool.{false≢true}
use Rattle.std.proofs.Math.Seq.{drop-append_seam}
use Rattle.foundation.specs.Tests.{and-true, and_intro, true_eq, eq_true}
use Rattle.foundation.specs.Lists.{Mem, each, length-each}

-- the number that the first w bytes of s hold; a byte that is missing counts as 0
abbrev pub le : ℕ → List ℕ → ℕ
le zero s = 0
le (suc w) [] = 0
le (suc w) (b ∷ s) = b + 256 * le w s

-- the w bytes of n
abbrev pub bytes_of : ℕ → ℕ → List ℕ
bytes_of zero n = []
bytes_of (suc w) n = n % 256 ∷ bytes_of w (n / 256)

-- the n records of s, each w bytes wide and read by f
abbrev pub records : {A : Type 0} → ℕ → (List ℕ → A) → ℕ → List ℕ → List A
records w f zero s = []
records w f (suc n) s = f s ∷ records w f n (drop w s)

abbrev pub eq_list : List ℕ → List ℕ → Bool
eq_list [] [] = true
eq_list [] (y ∷ ys) = false
eq_list (x ∷ xs) [] = false
eq_list (x ∷ xs) (y ∷ ys) = let r = eq_list xs ys in eqb x y && r

-- ---- numbers

pub length-bytes_of : (w n : ℕ) → length (bytes_of w n) ≡ w
length-bytes_of zero n = refl
length-bytes_of (suc w) n = ap suc (length-bytes_of w (n / 256))

-- the bytes of a number that fits, read back
pub le_bytes : (w n : ℕ) (s : List ℕ) → n < 256 ^ w → le w (bytes_of w n ++ s) ≡ n
le_bytes zero n s h = omega arith
le_bytes (suc w) n s h =
    let h' : n < 256 * 256 ^ w = rw (pow-succ' 256 w) at h in
    let d : n / 256 < 256 ^ w = omega arith in
    rw (le_bytes w (n / 256) s d) (omega arith)

-- ---- lists

pub eq_list_eq : (xs ys : List ℕ) → eq_list xs ys ≡ true → xs ≡ ys
eq_list_eq [] [] e = refl
eq_list_eq [] (y ∷ ys) e = absurd (false≢true e)
eq_list_eq (x ∷ xs) [] e = absurd (false≢true e)
eq_list_eq (x ∷ xs) (y ∷ ys) e =
    let p = and-true (eqb x y) (eq_list xs ys) e in
    ap₂ {C = List ℕ} (λ (a : ℕ) (l : List ℕ). a ∷ l) (true_eq x y p.0) (eq_list_eq xs ys p.1)

pub eq_list_refl : (xs : List ℕ) → eq_list xs xs ≡ true
eq_list_refl [] = refl
eq_list_refl (x ∷ xs) = and_intro (eqb x x) (eq_list xs xs) (eq_true x x refl) (eq_list_refl xs)

-- ---- records: `enc` writes one, w bytes wide, and `f` reads it back where P holds

module _ {A : Type 0} (f : List ℕ → A) (enc : A → List ℕ) (w : ℕ) (P : A → Type 0)
    (wide : (x : A) → length (enc x) ≡ w)
    (back : (x : A) (rest : List ℕ) → P x → f (enc x ++ rest) ≡ x) where
  behind_one : (x : A) (rest : List ℕ) → drop w (enc x ++ rest) ≡ rest
  behind_one x rest = subst (λ (n : ℕ). drop n (enc x ++ rest) ≡ rest) (wide x)
      (drop-append_seam (enc x) rest)

  pub records-back : (xs : List A) → ((x : A) → Mem x xs → P x) → (rest : List ℕ) →
      records w f (length xs) (each xs enc ++ rest) ≡ xs
  records-back [] h rest = refl
  records-back (x ∷ xs) h rest = rw (append_assoc (enc x) (each xs enc) rest)
      (ap₂ {C = List A} (λ (y : A) (ys : List A). y ∷ ys) (back x (each xs enc ++ rest) (h x (inl refl)))
      (rw (behind_one x (each xs enc ++ rest)) (records-back xs (λ y m. h y (inr m)) rest)))

-- what stands behind a body of records of w bytes
pub behind : {A : Type 0} (enc : A → List ℕ) (w : ℕ) → ((x : A) → length (enc x) ≡ w) →
    (xs : List A) (rest : List ℕ) →
    drop (w * length xs) (each xs enc ++ rest) ≡ rest
behind enc w h xs rest = drop_at (each xs enc) rest (w * length xs)
    (length-each xs enc w h ∙ mul_comm (length xs) w)
