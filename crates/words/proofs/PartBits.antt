-- The bits of a word below a place (`below-bit`) and from it on (`from-bit`).
use Rattle.std.specs.Prelude.{◌≡◌, false, ◌&&◌, ℕ, suc, ◌+◌, ◌*◌, ◌-◌, ◌/◌, ◌%◌, ◌^◌, ◌<◌, eqb, leb, ltb}
use Rattle.std.proofs.Common.{ap, ◌∙◌, arith, shr-shr, pow_pos, mod-lt}
use Rattle.foundation.specs.Tests.{cases, le-true, true-le, and-false}
use Rattle.foundation.specs.BitMasks.{bit, bit-inside}
use Rattle.foundation.specs.BitLaws.{bit_rest, bit_shl}

-- a word has no bit behind its last
pub all_below : (n m i : ℕ) → m < 2 ^ n → bit i m ≡ ltb i n && bit i m
all_below n m i h = cases (bit i m)
    (λ e. rw (e, le-true (suc i) n (bit-inside n m i h e)))
    (λ e. rw (e, and-false (ltb i n)))

pub below_bit : (m r i : ℕ) → bit i (m % 2 ^ r) ≡ ltb i r && bit i m
below_bit m r i = cases (ltb i r)
    (λ e. rw e (bit_rest m i r (true-le (suc i) r e)))
    (λ e. rw e (all_below r (m % 2 ^ r) i (mod-lt m (pow_pos r)) ∙ rw e))

pub none_from : (n m i : ℕ) → m < 2 ^ n → leb n i && bit i m ≡ false
none_from n m i h = cases (leb n i)
    (λ e. rw e (cases (bit i m)
    (λ b. let l = true-le n i e in absurd (omega (arith, bit-inside n m i h b)))
    (λ b. b)))
    (λ e. rw e)

pub from_bit : (m r i : ℕ) → bit i (m / 2 ^ r * 2 ^ r) ≡ leb r i && bit i m
from_bit m r i = bit_shl (m / 2 ^ r) r i ∙ cases (leb r i)
    (λ e. let l : r + (i - r) ≡ i = omega (arith, true-le r i e) in
    rw e (ap (λ (n : ℕ). eqb (n % 2) 1) (shr-shr m r (i - r)) ∙ ap (λ (n : ℕ). bit n m) l))
    (λ e. rw e)
