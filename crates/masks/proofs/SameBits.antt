-- Words with the same bits are one (`same_bits`), and one with fewer is not greater (`bits-le`).
use mathlib.Core.Path.{◌≡◌, refl, sym, ap, ◌∙◌}
use mathlib.Core.Bool.{true}
use Prim.Native.Nat.{ℕ, zero, suc, ◌+◌, ◌*◌, ◌/◌, ◌%◌, ◌^◌, ◌≤◌, ◌<◌}
use native.Mathlib.Nat.{pow-succ', div-one, pow-le-pow_right, lt_of_lt_of_le}
use native.Mathlib.Omega.{arith}
use lib.Bits.{bit_and, and_le_r}
use lib.Dec.{eqb}
use Rattle.foundation.specs.Tests.{cases, agree, true_eq, false_eq}
use Rattle.foundation.specs.BitMasks.{bit, power_above}
use Rattle.foundation.specs.BitLaws.{bit-half}
use Rattle.masks.proofs.SingleBits.{in_both, both_in}

low_bit : (x : ℕ) → bit 0 x ≡ eqb (x % 2) 1
low_bit x = ap (λ (y : ℕ). eqb (y % 2) 1) (div-one x)

low_same : (a b : ℕ) → eqb (a % 2) 1 ≡ eqb (b % 2) 1 → a % 2 ≡ b % 2
low_same a b e = cases (eqb (a % 2) 1)
    (λ y. let p = true_eq (a % 2) 1 y in let q = true_eq (b % 2) 1 (sym e ∙ y) in omega arith)
    (λ y. let p = false_eq (a % 2) 1 y in
    let q = false_eq (b % 2) 1 (sym e ∙ y) in
    let u : a % 2 ≡ 0 = small (a % 2) (omega arith) p in
    let v : b % 2 ≡ 0 = small (b % 2) (omega arith) q in
    omega arith)
  where
    small : (d : ℕ) → d < 2 → (d ≡ 1 → ⊥) → d ≡ 0
    small zero h n = refl
    small (suc d) h n = absurd (n (omega arith))

same_low : (n a b : ℕ) → a < 2 ^ n → b < 2 ^ n → ((i : ℕ) → bit i a ≡ bit i b) → a ≡ b
same_low zero a b h k e = omega arith
same_low (suc n) a b h k e =
    let l : a < 2 * 2 ^ n = rw (pow-succ' 2 n) at h in
    let m : b < 2 * 2 ^ n = rw (pow-succ' 2 n) at k in
    let q : a / 2 ≡ b / 2 = same_low n (a / 2) (b / 2) (omega arith) (omega arith)
    (λ i. sym (bit-half i a) ∙ e (suc i) ∙ bit-half i b) in
    let d = low_same a b (sym (low_bit a) ∙ e 0 ∙ low_bit b) in
    omega arith

pub same_bits : (a b : ℕ) → ((i : ℕ) → bit i a ≡ bit i b) → a ≡ b
same_bits a b = same_low (a + b) a b (below a (omega arith)) (below b (omega arith))
  where
    below : (k : ℕ) → k ≤ a + b → k < 2 ^ (a + b)
    below k h =
        lt_of_lt_of_le (power_above k) (pow-le-pow_right {n = 2} (omega arith) {i = k} {j = a + b} h)

-- a word whose bits are all in another is not greater
pub bits-le : (a b : ℕ) → ((i : ℕ) → bit i a ≡ true → bit i b ≡ true) → a ≤ b
bits-le a b h =
    let e : bit_and a b ≡ a = same_bits (bit_and a b) a (λ i. agree (bit i (bit_and a b)) (bit i a)
    (λ y. (in_both a b i y).0) (λ y. both_in a b i y (h i y))) in
    omega (arith, and_le_r a b)
