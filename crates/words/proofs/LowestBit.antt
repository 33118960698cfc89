-- A word without its lowest bit (`bit-lower`).
use mathlib.Core.Path.{◌≡◌, sym, ap, ap₂, ◌∙◌}
use mathlib.Core.Bool.{Bool, true, false, ◌&&◌}
use Prim.Native.Nat.{ℕ, zero, suc, ◌+◌, ◌*◌, ◌-◌, ◌/◌, ◌%◌, ◌<◌, min}
use native.Mathlib.Nat.{div-one, min-zero, zero-min}
use native.Mathlib.Omega.{arith}
use lib.Bits.{bit_and, and_step, and_self}
use lib.Dec.{eqb, ltb}
use Rattle.foundation.specs.Tests.{agree, le-true, le-false, true-le, true_eq, false_eq}
use Rattle.foundation.specs.BitMasks.{bit}
use Rattle.foundation.specs.BitLaws.{bit-half}

-- those of its half, and no lowest digit
lower-bit : (x y i : ℕ) → x ≡ y * 2 + 0 → (bit 0 x ≡ false) × (bit (suc i) x ≡ bit i y)
lower-bit x y i e =
    let h : x / 2 ≡ y = omega arith in
    let z : x % 2 ≡ 0 = omega arith in
    (rw (div-one x, z), bit-half i x ∙ ap (bit i) h)

-- of an odd word all but the lowest digit is left; of another, as of its half
lower_odd : (m : ℕ) → m % 2 ≡ 1 → bit_and m (m - 1) ≡ m / 2 * 2 + 0
lower_odd m e =
    let h : (m - 1) / 2 ≡ m / 2 = omega arith in
    let z : (m - 1) % 2 ≡ 0 = omega arith in
    let l : min (m % 2) ((m - 1) % 2) ≡ 0 = rw z (min-zero (m % 2)) in
    and_step m (m - 1) ∙ ap₂ (λ (a b : ℕ). bit_and (m / 2) a * 2 + b) h l
    ∙ ap (λ (a : ℕ). a * 2 + 0) (and_self (m / 2))

lower_even : (m : ℕ) → m % 2 ≡ 0 → bit_and m (m - 1) ≡ bit_and (m / 2) (m / 2 - 1) * 2 + 0
lower_even m e =
    let h : (m - 1) / 2 ≡ m / 2 - 1 = omega arith in
    let l : min (m % 2) ((m - 1) % 2) ≡ 0 = rw e (zero-min ((m - 1) % 2)) in
    and_step m (m - 1) ∙ ap₂ (λ (a b : ℕ). bit_and (m / 2) a * 2 + b) h l

digit_even : (m : ℕ) → bit 0 m ≡ false → m % 2 ≡ 0
digit_even m e =
    let s : (m % 2 ≡ 1) → ⊥ = false_eq (m % 2) 1 (ap (λ (y : ℕ). eqb (y % 2) 1) (sym (div-one m)) ∙ e) in
    omega arith

-- k being the lowest bit, those above it are left
pub bit-lower : (k m : ℕ) → ((j : ℕ) → j < k → bit j m ≡ false) → bit k m ≡ true →
    (i : ℕ) → bit i (bit_and m (m - 1)) ≡ ltb k i && bit i m
bit-lower zero m none e zero =
    let o : m % 2 ≡ 1 = true_eq (m % 2) 1 (ap (λ (y : ℕ). eqb (y % 2) 1) (sym (div-one m)) ∙ e) in
    (lower-bit (bit_and m (m - 1)) (m / 2) 0 (lower_odd m o)).0
bit-lower zero m none e (suc i) =
    let o : m % 2 ≡ 1 = true_eq (m % 2) 1 (ap (λ (y : ℕ). eqb (y % 2) 1) (sym (div-one m)) ∙ e) in
    (lower-bit (bit_and m (m - 1)) (m / 2) i (lower_odd m o)).1 ∙ sym (bit-half i m)
    ∙ sym (rw (le-true 1 (suc i) (omega arith)))
bit-lower (suc k) m none e zero =
    let z = digit_even m (none 0 (omega arith)) in
    (lower-bit (bit_and m (m - 1)) (bit_and (m / 2) (m / 2 - 1)) 0 (lower_even m z)).0
    ∙ sym (rw (le-false (suc (suc k)) 0 (omega arith)))
bit-lower (suc k) m none e (suc i) =
    let z = digit_even m (none 0 (omega arith)) in
    (lower-bit (bit_and m (m - 1)) (bit_and (m / 2) (m / 2 - 1)) i (lower_even m z)).1
    ∙ bit-lower k (m / 2) (λ j h. sym (bit-half j m) ∙ none (suc j) (omega arith)) (sym (bit-half k m) ∙ e) i
    ∙ ap₂ (λ (a b : Bool). a && b)
    (agree (ltb k i) (ltb (suc k) (suc i))
    (λ y. le-true (suc (suc k)) (suc i) (omega (arith, true-le (suc k) i y)))
    (λ y. le-true (suc k) i (omega (arith, true-le (suc (suc k)) (suc i) y))))
    (sym (bit-half i m))
