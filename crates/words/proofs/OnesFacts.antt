-- The bits of the ones at the low end of a word (`first-ones`) and of those from a bit on (`ones-from`).
use mathlib.Core.Path.{◌≡◌, refl, sym, ap, ap₂, ◌∙◌}
use mathlib.Core.Bool.{Bool, ◌&&◌}
use Prim.Native.Nat.{ℕ, zero, suc, ◌+◌, ◌*◌, ◌-◌, ◌/◌, ◌%◌, ◌^◌, min}
use native.Mathlib.Nat.{div-one, zero-div, min-zero, zero-min}
use native.Mathlib.Omega.{arith}
use lib.Dec.{eqb, leb}
use lib.Bits.{bit_and, and_step, and_self, and_le_l}
use Rattle.foundation.specs.Tests.{and_assoc}
use Rattle.foundation.specs.BitMasks.{bit}
use Rattle.foundation.specs.BitLaws.{bit-half, bit_shl}
use Rattle.words.specs.Ones.{up_to, ones, all_from}

-- all up to the next: the lowest, and all of the half
pub up_to-half : (i x : ℕ) → up_to (suc i) x ≡ bit 0 x && up_to i (x / 2)
up_to-half zero x = ap (λ (b : Bool). bit 0 x && b) (bit-half 0 x)
up_to-half (suc i) x =
    ap₂ (λ (a b : Bool). a && b) (up_to-half i x) (bit-half (suc i) x)
    ∙ and_assoc (bit 0 x) (up_to i (x / 2)) (bit (suc i) (x / 2))

ones_even : (x : ℕ) → x % 2 ≡ 0 → ones x ≡ 0
ones_even x e =
    let h : (x + 1) / 2 ≡ x / 2 = omega arith in
    let m : min (x % 2) ((x + 1) % 2) ≡ 0 = rw e (zero-min ((x + 1) % 2)) in
    let s : bit_and x (x + 1) ≡ x / 2 * 2 = and_step x (x + 1)
    ∙ ap₂ (λ (a b : ℕ). bit_and (x / 2) a * 2 + b) h m ∙ ap (λ (a : ℕ). a * 2 + 0) (and_self (x / 2))
    ∙ omega arith in
    omega arith

ones_odd : (x : ℕ) → x % 2 ≡ 1 → ones x ≡ 2 * ones (x / 2) + 1
ones_odd x e =
    let h : (x + 1) / 2 ≡ x / 2 + 1 = omega arith in
    let z : (x + 1) % 2 ≡ 0 = omega arith in
    let m : min (x % 2) ((x + 1) % 2) ≡ 0 = rw z (min-zero (x % 2)) in
    let s : bit_and x (x + 1) ≡ bit_and (x / 2) (x / 2 + 1) * 2 + 0 = and_step x (x + 1)
    ∙ ap₂ (λ (a b : ℕ). bit_and (x / 2) a * 2 + b) h m in
    let l = and_le_l (x / 2) (x / 2 + 1) in
    omega arith

-- the law of the kernel
pub first-ones : (i x : ℕ) → bit i (ones x) ≡ up_to i x
first-ones zero x = lowest
  where
    lowest : bit 0 (ones x) ≡ bit 0 x
    lowest = ap (λ (y : ℕ). eqb (y % 2) 1) (div-one (ones x)) ∙ both
        ∙ sym (ap (λ (y : ℕ). eqb (y % 2) 1) (div-one x))
      where
        both : eqb (ones x % 2) 1 ≡ eqb (x % 2) 1
        both = split (x % 2) refl
          where
            split : (d : ℕ) → x % 2 ≡ d → eqb (ones x % 2) 1 ≡ eqb (x % 2) 1
            split zero e = rw (ones_even x e, e)
            split (suc d) e = let f : x % 2 ≡ 1 = omega arith in
                let g : (2 * ones (x / 2) + 1) % 2 ≡ 1 = omega arith in
                rw (ones_odd x f, g, f)
first-ones (suc i) x = split (first-ones i (x / 2)) (x % 2) refl
  where
    split : bit i (ones (x / 2)) ≡ up_to i (x / 2) → (d : ℕ) → x % 2 ≡ d →
        bit (suc i) (ones x) ≡ up_to (suc i) x
    split ih zero e =
        rw (ones_even x e, up_to-half i x, div-one x, e, zero-div (2 ^ suc i))
    split ih (suc d) e =
        let f : x % 2 ≡ 1 = omega arith in
        let g : (2 * ones (x / 2) + 1) / 2 ≡ ones (x / 2) = omega arith in
        bit-half i (ones x)
        ∙ ap (λ (y : ℕ). bit i (y / 2)) (ones_odd x f)
        ∙ ap (bit i) g
        ∙ ih
        ∙ sym (up_to-half i x ∙ rw (div-one x, f))

-- those from a bit on
pub ones-from : (a i x : ℕ) → bit i (ones (x / 2 ^ a) * 2 ^ a) ≡ all_from a i x
ones-from a i x = bit_shl (ones (x / 2 ^ a)) a i
    ∙ ap (λ (b : Bool). leb a i && b) (first-ones (i - a) (x / 2 ^ a))
