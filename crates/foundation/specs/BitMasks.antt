-- The bits of a number, and tests of a list's members as one number, where bit i is what the i-th answers.
-- The mask of one bit tests that bit (`mask-test`); bit i of a mask is the i-th answer (`mask-nth`, and for
-- records `mask_at`); a loop builds the mask of n records from the last to the first (`MaskBuilt`).
use Rattle.std.specs.Prelude.{◌≡◌, refl, Bool, true, false, List, [], ◌∷◌, ℕ, zero, suc, ◌+◌, ◌*◌, ◌-◌, ◌/◌, ◌%◌, ◌^◌, ◌≤◌, ◌<◌, eqb, ltb, length, drop}
use Rattle.std.proofs.Common.{sym, ap, ◌∙◌, lt_of_lt_of_le, div-one, mod-eq_of_lt, one-add, arith, pow-add, pow_pos}
use Rattle.std.proofs.lemmas.Bool.{false≢true}
use Rattle.std.proofs.Math.Nat.{pow-succ', pow-le-pow_right, div-eq_of_lt, div-div-eq-div-mul, zero-div}
use mir.Val.{bool_byte}
use Rattle.std.specs.Int.Bits.{bit_and}
use Rattle.std.proofs.lemmas.Nat.Bits.{and_high}
use Rattle.std.specs.Int.Count.{count_trailing_zeros, under}
use Rattle.std.proofs.Math.Seq.{drop-nil}
use Rattle.foundation.specs.Tests.{cases, eq_true, ne_false, true_eq, true-le, false-le}
use Rattle.foundation.specs.Bytes.{records}
use Rattle.foundation.specs.ByteRecords.{length-records, record_nth, rest, rest_all, rest_step}
use Rattle.foundation.specs.ByteRecords.{rest_end}

-- a test as a number
abbrev pub as_bit : Bool → ℕ
as_bit true = 1
as_bit false = 0

-- bit k of a number
abbrev pub bit : ℕ → ℕ → Bool
bit k flags = eqb (flags / 2 ^ k % 2) 1

abbrev pub mask_of : {A : Type 0} → (A → Bool) → List A → ℕ
mask_of p [] = 0
mask_of p (x ∷ l) = as_bit (p x) + 2 * mask_of p l

-- ---- one bit

pub bit_le : (b : Bool) → as_bit b ≤ 1
bit_le true = omega arith
bit_le false = omega arith

pub bit_mono : (a b : Bool) → (a ≡ true → b ≡ true) → as_bit a ≤ as_bit b
bit_mono true b h = rw (h refl) (omega arith)
bit_mono false b h = omega arith

pub bit_same : (a b : Bool) → as_bit a ≡ as_bit b → a ≡ b
bit_same true true e = refl
bit_same true false e = absurd (omega arith)
bit_same false true e = absurd (omega arith)
bit_same false false e = refl

pub bit-true : (b : Bool) → eqb (as_bit b) 1 ≡ b
bit-true true = eq_true 1 1 refl
bit-true false = ne_false 0 1 (λ e. omega arith)

pub half : (b : Bool) (m : ℕ) → (as_bit b + 2 * m) / 2 ≡ m
half b m = omega (arith, bit_le b)

pub byte-bit : (b : Bool) → bool_byte b ≡ as_bit b
byte-bit true = refl
byte-bit false = refl

-- 0 has no bit
pub bit-zero : (i : ℕ) → bit i 0 ≡ false
bit-zero i = ap (λ (n : ℕ). eqb (n % 2) 1) (zero-div (2 ^ i))

-- a number is below its power of two, so that a word with no bit is 0
pub power_above : (n : ℕ) → n < 2 ^ n
power_above zero = omega arith
power_above (suc n) = rw (pow-succ' 2 n) (omega (arith, power_above n))

-- a number has no bit behind its last
pub bit-inside : (n x i : ℕ) → x < 2 ^ n → bit i x ≡ true → i < n
bit-inside n x i h e = cases (ltb i n) (λ y. true-le (suc i) n y) (λ y.
    let g : n ≤ i = omega (arith, false-le (suc i) n y) in
    let z : x / 2 ^ i ≡ 0 = div-eq_of_lt (lt_of_lt_of_le h (pow-le-pow_right {n = 2} (omega arith) g)) in
    absurd (omega (arith, true_eq (x / 2 ^ i % 2) 1 e)))

-- the mask of one bit keeps that bit
and-bit : (k f : ℕ) → bit_and f (2 ^ k) ≡ (f / 2 ^ k % 2) * 2 ^ k
and-bit k f =
    let e : 2 ^ (1 + k) - 2 ^ k ≡ 2 ^ k = rw (one-add k, pow-succ' 2 k) (omega arith) in
    ap (bit_and f) (sym e) ∙ and_high f 1 k

scaled : (x p : ℕ) → x < 2 → 0 < p → eqb (x * p) p ≡ eqb x 1
scaled zero p h k = ne_false (0 * p) p (λ e. omega arith)
scaled (suc zero) p h k = eq_true (1 * p) p (omega arith)
scaled (suc (suc x)) p h k = absurd (omega arith)

pub none_set : (k : ℕ) → bit k 0 ≡ true → ⊥
none_set k e = false≢true (sym (bit-zero k) ∙ e)

-- a test by a mask of one bit is a test of that bit
pub mask_test : (k f : ℕ) → eqb (bit_and f (2 ^ k)) (2 ^ k) ≡ bit k f
mask_test k f = ap (λ (n : ℕ). eqb n (2 ^ k)) (and-bit k f)
    ∙ scaled (f / 2 ^ k % 2) (2 ^ k) (omega arith) (pow_pos k)

-- the six high bits of a byte are clear exactly if it is below 4
high-case : (f : ℕ) (t : Bool) → f < 256 → ltb f 4 ≡ t → eqb ((f / 4 % 64) * 4) 0 ≡ t
high-case f true h e =
    let l : f < 4 = true-le (suc f) 4 e in
    let q : f / 4 ≡ 0 = omega arith in
    eq_true ((f / 4 % 64) * 4) 0 (rw q)
high-case f false h e =
    let l : 4 < suc f = false-le (suc f) 4 e in
    let q : f / 4 < 64 = omega arith in
    let m : f / 4 % 64 ≡ f / 4 = mod-eq_of_lt q in
    ne_false ((f / 4 % 64) * 4) 0 (λ z. let y : (f / 4) * 4 ≡ 0 = rw m at z in omega (arith, y))

pub high-clear : (f : ℕ) → f < 256 → eqb (bit_and f 252) 0 ≡ ltb f 4
high-clear f h = ap (λ (n : ℕ). eqb n 0) (and_high f 6 2) ∙ high-case f (ltb f 4) h refl

-- ---- the bits from a place on: none lies in the zeros at the low end

-- no bit lies below the lowest
lowest_bit : (k x r : ℕ) → bit r x ≡ true → count_trailing_zeros k x ≤ r
unfolding count_trailing_zeros
lowest_bit zero x r e = omega arith
lowest_bit (suc k) x zero e =
    let d : x % 2 ≡ 1 = ap (λ (n : ℕ). n % 2) (sym (div-one x)) ∙ true_eq (x / 2 ^ 0 % 2) 1 e in
    rw d (omega arith)
lowest_bit (suc k) x (suc r) e =
    let d : bit r (x / 2) ≡ true = rw (div-div-eq-div-mul x 2 (2 ^ r), ← pow-succ' 2 r) e in
    under-suc (x % 2) (count_trailing_zeros k (x / 2)) r (lowest_bit k (x / 2) r d)
  where
    under-suc : (d t r : ℕ) → t ≤ r → under d t ≤ suc r
    under-suc zero t r h = omega arith
    under-suc (suc d) t r h = omega arith

-- the bits from the r-th on are those of the word shifted by r
bit-from : (x r j : ℕ) → bit (r + j) x ≡ true → bit j (x / 2 ^ r) ≡ true
bit-from x r j e = rw (div-div-eq-div-mul x (2 ^ r) (2 ^ j), ← pow-add 2 r j) e

-- so none lies between the r-th and the lowest of those
pub none_between : (k x r i : ℕ) → r ≤ i → i < r + count_trailing_zeros k (x / 2 ^ r) → bit i x ≡ false
none_between k x r i h l = cases (bit i x)
    (λ e. let j : r + (i - r) ≡ i = omega arith in
    absurd (omega (
      arith,
      lowest_bit k (x / 2 ^ r) (i - r)
          (bit-from x r (i - r) (ap (λ (n : ℕ). bit n x) j ∙ e)),
    )))
    (λ e. e)

-- ---- the mask of a list

pub mask_lt : {A : Type 0} (p : A → Bool) (l : List A) → mask_of p l < 2 ^ length l
mask_lt p [] = omega arith
mask_lt p (x ∷ l) = let i = mask_lt p l in rw (pow-succ' 2 (length l)) (omega (arith, bit_le (p x)))

mask_digit : {A : Type 0} (p : A → Bool) (l : List A) (i : ℕ) (x : A) (r : List A) → drop i l ≡ x ∷ r →
    mask_of p l / 2 ^ i % 2 ≡ as_bit (p x)
mask_digit {A} p [] i x r e =
    let n : ◌≡◌ {A = List A} [] (x ∷ r) = sym (drop-nil i) ∙ e in
    let z : ◌≡◌ {A = ℕ} 0 1 = cc in
    absurd (omega arith)
mask_digit p (y ∷ l) zero x r e =
    let q : y ≡ x = cc in
    rw (q, div-one (as_bit (p x) + 2 * mask_of p l)) (omega (arith, bit_le (p x)))
mask_digit p (y ∷ l) (suc i) x r e =
    let m : ℕ = mask_of p l in
    rw (pow-succ' 2 i, ← div-div-eq-div-mul (as_bit (p y) + 2 * m) 2 (2 ^ i), half (p y) m)
    (mask_digit p l i x r e)

-- bit i of the mask is what the i-th of the list answers, x
pub mask_nth : {A : Type 0} (p : A → Bool) (l : List A) (i : ℕ) (x : A) (r : List A) → drop i l ≡ x ∷ r →
    bit i (mask_of p l) ≡ p x
mask_nth p l i x r e = ap (λ (n : ℕ). eqb n 1) (mask_digit p l i x r e) ∙ bit-true (p x)

-- and no other bit is set
pub mask_inside : {A : Type 0} (p : A → Bool) (l : List A) (i : ℕ) → bit i (mask_of p l) ≡ true → i < length l
mask_inside p l i e = bit-inside (length l) (mask_of p l) i (mask_lt p l) e

-- ---- the mask of records

pub mask_at : {R : Type 0} (w : ℕ) (f : List ℕ → R) (p : R → Bool) (n : ℕ) (s : List ℕ) (i : ℕ) → i < n →
    bit i (mask_of p (records w f n s)) ≡ p (f (drop (i * w) s))
mask_at w f p n s i h =
    let l = records w f n s in
    mask_nth p l i (f (drop (i * w) s)) (drop (suc i) l) (record_nth w f n s i h)

module _ {R : Type 0} (w : ℕ) (f : List ℕ → R) (p : R → Bool) (n : ℕ) (s : List ℕ) where
  -- a loop that builds the mask of n records from the last to the first: m is the mask of those from the i-th
  -- on
  abbrev pub MaskBuilt : ℕ → ℕ → Type 0
  MaskBuilt m i = m ≡ mask_of p (rest w f n s i)

  pub build_start : MaskBuilt 0 n
  build_start = sym (ap (mask_of p) (rest_end w f n s n (omega arith)))

  -- one more bit fits
  pub build_room : (m i : ℕ) (b : Bool) → 0 < i → n ≤ 64 → MaskBuilt m i →
      2 * m + bool_byte b < 18446744073709551616
  build_room m i b h k e =
      let l : length (rest w f n s i) ≤ 63 = omega (arith, length-records w f (n - i) (drop (i * w) s)) in
      let v : mask_of p (rest w f n s i) < 9223372036854775808 =
      lt_of_lt_of_le (mask_lt p (rest w f n s i)) (pow-le-pow_right {n = 2} (omega arith) l) in
      omega (arith, byte-bit b, bit_le b)

  pub build_turn : (m i : ℕ) (b : Bool) → 0 < i → i ≤ n → MaskBuilt m i → b ≡ p (f (drop ((i - 1) * w) s)) →
      MaskBuilt (2 * m + bool_byte b) (i - 1)
  build_turn m i b h l e g =
      let j : (i - 1) + 1 ≡ i = omega arith in
      rw (byte-bit b, g, e, rest_step w f n s (i - 1) (omega arith), j) (omega arith)

  pub build_end : (m i : ℕ) → i ≡ 0 → MaskBuilt m i → m ≡ mask_of p (records w f n s)
  build_end m i z e = rw (← rest_all w f n s, ← z) e
