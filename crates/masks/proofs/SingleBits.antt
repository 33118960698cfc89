-- Single bits of words: that of a power of two, and those that two words have in common.
use mathlib.Core.Path.{◌≡◌, sym, ap, ◌∙◌}
use mathlib.Core.Bool.{true, false, false≢true}
use Prim.Native.Nat.{ℕ, ◌%◌, ◌^◌, ◌≤◌, ◌<◌}
use native.Mathlib.Nat.{div_self}
use lib.Bits.{bit_and}
use lib.Dec.{eqb}
use lib.Pow.{pow_pos}
use Rattle.foundation.specs.Tests.{agree, eq_true, true_eq, and-true}
use Rattle.foundation.specs.Tests.{and_intro}
use Rattle.foundation.specs.BitMasks.{bit, bit-zero}
use Rattle.foundation.specs.BitLaws.{bit_and_lem, power_only}

-- a power of two has its own bit and no other
pub one_bit : (r i : ℕ) → bit i (2 ^ r) ≡ eqb i r
one_bit r i = agree (bit i (2 ^ r)) (eqb i r)
    (λ e. eq_true i r (power_only r i e))
    (λ e. ap (λ (n : ℕ). bit n (2 ^ r)) (true_eq i r e)
    ∙ ap (λ (n : ℕ). eqb (n % 2) 1) (div_self (pow_pos r)))

-- ---- what two words have in common

pub in_both : (x y i : ℕ) → bit i (bit_and x y) ≡ true → (bit i x ≡ true) × (bit i y ≡ true)
in_both x y i e = and-true (bit i x) (bit i y) (sym (bit_and_lem x y i) ∙ e)

pub both_in : (x y i : ℕ) → bit i x ≡ true → bit i y ≡ true → bit i (bit_and x y) ≡ true
both_in x y i e f = bit_and_lem x y i ∙ and_intro (bit i x) (bit i y) e f

pub bits-apart : (x y i : ℕ) → bit_and x y ≡ 0 → bit i x ≡ true → bit i y ≡ true → ⊥
bits-apart x y i z e f = false≢true (sym (bit-zero i) ∙ ap (bit i) (sym z) ∙ both_in x y i e f)

-- no bit lies from a on below b
abbrev pub NoneIn : ℕ → ℕ → ℕ → Type 0
NoneIn x a b = (i : ℕ) → a ≤ i → i < b → bit i x ≡ false
