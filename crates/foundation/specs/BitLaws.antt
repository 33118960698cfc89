-- The bits of numbers that are joined (`bit-or`), met (`bit-and`), cut (`bit-rest`) or shifted (`bit-shl`),
-- of a row of ones (`span-bit`) and of a power of two (`power-only`). A number with no bit from a place on is
-- small (`no_bits`, `below_power`).
use Rattle.std.specs.Prelude.{◌≡◌, refl, Bool, true, false, ◌&&◌, ◌||◌, ℕ, zero, suc, ◌+◌, ◌*◌, ◌-◌, ◌/◌, ◌%◌, ◌^◌, ◌≤◌, ◌<◌, min, max, eqb, leb, ltb}
use Rattle.std.proofs.Common.{sym, ap, ◌∙◌, div-one, one-mul, mul_assoc, div-lt_iff_lt-mul, div-le_self, arith, pow_pos, pow-add, shr-shr}
use Rattle.std.proofs.Math.Nat.{pow-succ', max-le, min-le_left, div-div-eq-div-mul}
use Rattle.std.specs.Int.Bits.{bit_and, bit_or, and_step, or_step}
use Rattle.std.proofs.lemmas.Nat.{and_shr, or_shr, shl-shr}
use Rattle.std.proofs.Math.Pow.{field, mod-mod-pow, high_ones}
use Rattle.foundation.specs.Tests.{cases, agree, le-true, le-false, true-le, false-le, and-true}
use Rattle.foundation.specs.Tests.{eq_true, ne_false, false_eq}
use Rattle.foundation.specs.BitMasks.{bit, bit-zero, power_above}

-- one bit further is the bit of the half
pub bit-half : (i x : ℕ) → bit (suc i) x ≡ bit i (x / 2)
bit-half i x = rw (pow-succ' 2 i, ← div-div-eq-div-mul x 2 (2 ^ i))

-- ---- words that are joined or met

-- what is said of two digits, by cases
pub both-digits : (P : ℕ → ℕ → Type 0) → P 0 0 → P 0 1 → P 1 0 → P 1 1 → (p q : ℕ) → p < 2 → q < 2 → P p q
both-digits P a b c d zero zero h l = a
both-digits P a b c d zero (suc zero) h l = b
both-digits P a b c d (suc zero) zero h l = c
both-digits P a b c d (suc zero) (suc zero) h l = d
both-digits P a b c d zero (suc (suc q)) h l = absurd (omega arith)
both-digits P a b c d (suc zero) (suc (suc q)) h l = absurd (omega arith)
both-digits P a b c d (suc (suc p)) q h l = absurd (omega arith)

or_digits : (p q : ℕ) → p < 2 → q < 2 → eqb (max p q) 1 ≡ eqb p 1 || eqb q 1
or_digits = both-digits (λ p q. eqb (max p q) 1 ≡ eqb p 1 || eqb q 1) refl refl refl refl

and-digits : (p q : ℕ) → p < 2 → q < 2 → eqb (min p q) 1 ≡ eqb p 1 && eqb q 1
and-digits = both-digits (λ p q. eqb (min p q) 1 ≡ eqb p 1 && eqb q 1) refl refl refl refl

or_low : (a b : ℕ) → bit_or a b % 2 ≡ max (a % 2) (b % 2)
or_low a b =
    let s = or_step a b in
    let l : max (a % 2) (b % 2) ≤ 1 = max-le (omega arith) (omega arith) in
    omega arith

and_low : (a b : ℕ) → bit_and a b % 2 ≡ min (a % 2) (b % 2)
and_low a b =
    let s = and_step a b in
    let l : min (a % 2) (b % 2) ≤ a % 2 = min-le_left (a % 2) (b % 2) in
    omega arith

pub bit_or_lem : (a b i : ℕ) → bit i (bit_or a b) ≡ bit i a || bit i b
bit_or_lem a b i =
    ap (λ (n : ℕ). eqb (n % 2) 1) (or_shr a b i)
    ∙ ap (λ (n : ℕ). eqb n 1) (or_low (a / 2 ^ i) (b / 2 ^ i))
    ∙ or_digits (a / 2 ^ i % 2) (b / 2 ^ i % 2) (omega arith) (omega arith)

pub bit_and_lem : (a b i : ℕ) → bit i (bit_and a b) ≡ bit i a && bit i b
bit_and_lem a b i =
    ap (λ (n : ℕ). eqb (n % 2) 1) (and_shr a b i)
    ∙ ap (λ (n : ℕ). eqb n 1) (and_low (a / 2 ^ i) (b / 2 ^ i))
    ∙ and-digits (a / 2 ^ i % 2) (b / 2 ^ i % 2) (omega arith) (omega arith)

-- ---- words that are cut or shifted

-- the bits below the n-th are those of the rest
pub bit_rest : (x m n : ℕ) → m < n → bit m (x % 2 ^ n) ≡ bit m x
bit_rest x m n h =
    let d : ℕ = n - suc m in
    let s : (d + 1) + m ≡ n = omega arith in
    ap (λ (k : ℕ). eqb (x % 2 ^ k / 2 ^ m % 2) 1) (sym s)
    ∙ ap (λ (k : ℕ). eqb (k % 2) 1) (field x (d + 1) m)
    ∙ ap (λ (k : ℕ). eqb k 1) (mod-mod-pow (x / 2 ^ m) d 1)

-- bits of a word shifted up by a
pub bit_shl : (x a i : ℕ) → bit i (x * 2 ^ a) ≡ leb a i && bit (i - a) x
bit_shl x a i = cases (leb a i)
    (λ e. let l = true-le a i e in
    let s : a + (i - a) ≡ i = omega arith in
    rw e (ap (λ (n : ℕ). eqb (x * 2 ^ a / 2 ^ n % 2) 1) (sym s)
    ∙ ap (λ (n : ℕ). eqb (n % 2) 1) (sym (shr-shr (x * 2 ^ a) a (i - a))
    ∙ ap (λ (n : ℕ). n / 2 ^ (i - a)) (shl-shr x a))))
    (λ e. let l = false-le a i e in
    let d : ℕ = a - i - 1 in
    let s : (d + 1) + i ≡ a = omega arith in
    let f : x * 2 ^ a ≡ x * 2 ^ (d + 1) * 2 ^ i =
    ap (λ (n : ℕ). x * 2 ^ n) (sym s) ∙ ap (λ (n : ℕ). x * n) (pow-add 2 (d + 1) i)
    ∙ sym (mul_assoc x (2 ^ (d + 1)) (2 ^ i)) in
    let g : x * 2 ^ (d + 1) ≡ x * 2 ^ d * 2 =
    ap (λ (n : ℕ). x * n) (pow-add 2 d 1) ∙ sym (mul_assoc x (2 ^ d) 2) in
    rw e (ap (λ (n : ℕ). eqb (n / 2 ^ i % 2) 1) f
    ∙ ap (λ (n : ℕ). eqb (n % 2) 1) (shl-shr (x * 2 ^ (d + 1)) i ∙ g)
    ∙ ne_false (x * 2 ^ d * 2 % 2) 1 (λ z. omega arith)))

-- the same order, with both sides moved
less_moved : (i n j m : ℕ) → (i < n → j < m) → (j < m → i < n) → ltb i n ≡ ltb j m
less_moved i n j m f g = agree (ltb i n) (ltb j m)
    (λ y. le-true (suc j) m (f (true-le (suc i) n y)))
    (λ y. le-true (suc i) n (g (true-le (suc j) m y)))

-- a word of n ones
ones_bit : (n i : ℕ) → bit i (2 ^ n - 1) ≡ ltb i n
ones_bit zero i = bit-zero i ∙ sym (le-false (suc i) 0 (omega arith))
ones_bit (suc n) zero =
    let p = pow_pos n in
    let e : (2 ^ suc n - 1) % 2 ≡ 1 = rw (pow-succ' 2 n) (omega arith) in
    ap (λ (y : ℕ). eqb (y % 2) 1) (div-one (2 ^ suc n - 1)) ∙ eq_true ((2 ^ suc n - 1) % 2) 1 e
    ∙ sym (le-true 1 (suc n) (omega arith))
ones_bit (suc n) (suc i) =
    let p = pow_pos n in
    let e : (2 ^ suc n - 1) / 2 ≡ 2 ^ n - 1 = rw (pow-succ' 2 n) (omega arith) in
    bit-half i (2 ^ suc n - 1) ∙ ap (bit i) e ∙ ones_bit n i
    ∙ less_moved i n (suc i) (suc n) (λ m. omega arith) (λ m. omega arith)

-- the ones from the a-th bit up to, and without, the e-th
pub span_bit : (a e i : ℕ) → a ≤ e → bit i (2 ^ e - 2 ^ a) ≡ leb a i && ltb i e
span_bit a e i h =
    let s : (e - a) + a ≡ e = omega arith in
    ap (λ (n : ℕ). bit i (2 ^ n - 2 ^ a)) (sym s)
    ∙ ap (bit i) (high_ones (e - a) a)
    ∙ bit_shl (2 ^ (e - a) - 1) a i
    ∙ cases (leb a i)
    (λ y. let l = true-le a i y in
    rw y (ones_bit (e - a) (i - a) ∙ less_moved (i - a) (e - a) i e (λ m. omega arith) (λ m. omega arith)))
    (λ y. rw y)

-- ---- a power of two has one bit

power_bit : (k i : ℕ) → bit i (2 ^ k) ≡ leb k i && (leb 0 (i - k) && ltb (i - k) 1)
power_bit k i = ap (bit i) (sym (one-mul (2 ^ k))) ∙ bit_shl 1 k i
    ∙ ap (λ (b : Bool). leb k i && b) (span_bit 0 1 (i - k) (omega arith))

pub power_only : (k i : ℕ) → bit i (2 ^ k) ≡ true → i ≡ k
power_only k i e =
    let w = and-true (leb k i) (leb 0 (i - k) && ltb (i - k) 1) (sym (power_bit k i) ∙ e) in
    let v = and-true (leb 0 (i - k)) (ltb (i - k) 1) w.1 in
    omega (arith, true-le k i w.0, true-le (suc (i - k)) 1 v.1)

-- ---- a number without bits

-- with no bit a number is 0
pub no_bits : (n x : ℕ) → x < 2 ^ n → ((i : ℕ) → i < n → bit i x ≡ false) → x ≡ 0
no_bits zero x h z = omega arith
no_bits (suc n) x h z =
    let s : (x % 2 ≡ 1) → ⊥ = false_eq (x % 2) 1 (ap (λ (y : ℕ). eqb (y % 2) 1) (sym (div-one x))
    ∙ z 0 (omega arith)) in
    let l : x < 2 * 2 ^ n = rw (pow-succ' 2 n) at h in
    let q : x / 2 ≡ 0 = no_bits n (x / 2) (omega arith) (λ i m. sym (bit-half i x)
    ∙ z (suc i) (omega arith)) in
    omega arith

-- a number with no bit from the n-th on is below 2^n
pub below_power : (n x : ℕ) → ((i : ℕ) → n ≤ i → bit i x ≡ false) → x < 2 ^ n
below_power n x z =
    let q : x / 2 ^ n ≡ 0 =
    no_bits x (x / 2 ^ n) (omega (arith, div-le_self x (2 ^ n), power_above x)) (λ i m.
    rw (div-div-eq-div-mul x (2 ^ n) (2 ^ i), ← pow-add 2 n i) (z (n + i) (omega arith))) in
    omega (arith, (div-lt_iff_lt-mul {k = 2 ^ n} {x = x} {y = 1} (pow_pos n)).0 (omega arith))
