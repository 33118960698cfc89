-- A word without the bits of another (`bit-less`); without one of its own it is smaller (`cut-less`).
use mathlib.Core.Path.{◌≡◌, refl, sym, ap, ap₂, ◌∙◌}
use mathlib.Core.Bool.{Bool, true, not, ◌&&◌}
use Prim.Native.Nat.{ℕ, zero, suc, ◌-◌, ◌/◌, ◌%◌, ◌^◌, ◌≤◌, ◌<◌, min}
use native.Mathlib.Nat.{div-one, min-le_left}
use native.Mathlib.Omega.{arith}
use lib.Bits.{bit_and, and_step, and_le_l}
use lib.Dec.{eqb}
use lib.Pow.{pow_pos}
use Rattle.foundation.specs.Tests.{true_eq}
use Rattle.foundation.specs.BitMasks.{bit, mask_test}
use Rattle.foundation.specs.BitLaws.{bit-half, both-digits}
use Rattle.words.specs.Bits.{less}

less-digits : (p q : ℕ) → p < 2 → q < 2 → eqb (p - min p q) 1 ≡ eqb p 1 && not (eqb q 1)
less-digits = both-digits (λ p q. eqb (p - min p q) 1 ≡ eqb p 1 && not (eqb q 1)) refl refl refl refl

less-half : (a b : ℕ) → (less a b / 2 ≡ less (a / 2) (b / 2)) × (less a b % 2 ≡ a % 2 - min (a % 2) (b % 2))
less-half a b =
    let s = and_step a b in
    let l = and_le_l (a / 2) (b / 2) in
    let m : min (a % 2) (b % 2) ≤ a % 2 = min-le_left (a % 2) (b % 2) in
    (omega arith, omega arith)

pub bit-less : (i a b : ℕ) → bit i (less a b) ≡ bit i a && not (bit i b)
bit-less zero a b =
    ap (λ (n : ℕ). eqb (n % 2) 1) (div-one (less a b))
    ∙ ap (λ (n : ℕ). eqb n 1) (less-half a b).1
    ∙ less-digits (a % 2) (b % 2) (omega arith) (omega arith)
    ∙ sym (ap₂ (λ (x y : ℕ). eqb (x % 2) 1 && not (eqb (y % 2) 1)) (div-one a) (div-one b))
bit-less (suc i) a b =
    bit-half i (less a b) ∙ ap (bit i) (less-half a b).0 ∙ bit-less i (a / 2) (b / 2)
    ∙ sym (ap₂ (λ (x y : Bool). x && not y) (bit-half i a) (bit-half i b))

-- without one of its bits a word is smaller
pub cut-less : (x k : ℕ) → bit k x ≡ true → less x (2 ^ k) < x
cut-less x k e =
    let a : bit_and x (2 ^ k) ≡ 2 ^ k = true_eq (bit_and x (2 ^ k)) (2 ^ k) (mask_test k x ∙ e) in
    omega (arith, pow_pos k, and_le_l x (2 ^ k))
