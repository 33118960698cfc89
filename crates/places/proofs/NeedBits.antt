-- The bits of what is needed at a pair.
use mathlib.Core.Path.{◌≡◌, ap, ap₂, ◌∙◌}
use mathlib.Core.Bool.{Bool, true, ◌&&◌, and_comm}
use Prim.Native.Nat.{ℕ, ◌+◌, ◌*◌, ◌-◌, ◌/◌, ◌%◌, ◌^◌, ◌≤◌, ◌<◌}
use native.Mathlib.Nat.{mod-eq_of_lt, mul-le-mul, div-one}
use native.Mathlib.Omega.{arith}
use lib.Bits.{bit_and}
use lib.Dec.{eqb, leb, ltb}
use lib.Pow.{pow_mono, shr-shr}
use Rattle.foundation.specs.Tests.{le-true, and_intro}
use Rattle.foundation.specs.BitMasks.{bit, mask_test}
use Rattle.foundation.specs.BitLaws.{bit_and_lem, bit_shl, span_bit}
use Rattle.places.specs.Needs.{needs_of, both_signs, both_at}

-- it is a word of 16 bits
pub needs_fit : (signs m : ℕ) → signs < 4 → m < 8 → needs_of signs m % 65536 ≡ needs_of signs m
needs_fit signs m h l =
    let x : ℕ = signs % 2 + 256 * (signs / 2) in
    let a : x ≤ 257 = omega arith in
    let g : m ≤ 7 = omega arith in
    let b : 2 ^ m ≤ 128 = pow_mono g in
    let q : x * 2 ^ m ≤ 257 * 128 = mul-le-mul a b in
    mod-eq_of_lt (omega arith)

-- a mode with both signs, as bits
pub both_bits : (m : ℕ) → (bit m (both_signs m) ≡ true) × (bit (8 + m) (both_signs m) ≡ true)
both_bits m =
    let e : m - m ≡ 0 = omega arith in
    let f : 8 + m - m ≡ 8 = omega arith in (
      bit_shl 257 m m ∙ and_intro (leb m m) (bit (m - m) 257) (le-true m m (omega arith)) (rw e),
      bit_shl 257 m (8 + m) ∙ and_intro (leb m (8 + m)) (bit (8 + m - m) 257)
          (le-true m (8 + m) (omega arith))
          (rw f),
    )

-- the lowest bit of a shifted word
pub lowest_bit : (x k : ℕ) → eqb (bit_and (x / 2 ^ k) 1) 1 ≡ bit k x
lowest_bit x k = mask_test 0 (x / 2 ^ k) ∙ ap (λ (n : ℕ). eqb (n % 2) 1) (div-one (x / 2 ^ k))

module _ (w : ℕ) where
  -- a word, and its high byte
  abbrev both : ℕ
  both = bit_and w (w / 2 ^ 8)

  pub both-bit : (m : ℕ) → bit m both ≡ both_at w m
  both-bit m = bit_and_lem w (w / 2 ^ 8) m
      ∙ ap (λ (b : Bool). bit m w && b) (ap (λ (n : ℕ). eqb (n % 2) 1) (shr-shr w 8 m))

  pub both-mode : (m : ℕ) → bit m (bit_and both 255) ≡ ltb m 8 && both_at w m
  both-mode m =
      let low : bit m 255 ≡ ltb m 8 = span_bit 0 8 m (omega arith)
      ∙ ap (λ (b : Bool). b && ltb m 8) (le-true 0 m (omega arith)) in
      bit_and_lem both 255 m
      ∙ ap₂ (λ (a b : Bool). a && b) (both-bit m) low
      ∙ and_comm (both_at w m) (ltb m 8)
