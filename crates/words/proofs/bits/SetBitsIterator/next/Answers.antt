use Rattle.std.proofs.Common.{sym, ap, ◌∙◌, arith}
use Rattle.std.specs.Prelude.{◌≡◌, true, false, ◌&&◌, List, ℕ, ◌<◌, ◌-◌, ◌∷◌, ltb, length}
use Rattle.std.specs.Int.Bits.{bit_and}
use Rattle.foundation.specs.BitMasks.{bit}
use Rattle.foundation.specs.BitLaws.{no_bits}
use Rattle.words.specs.SetBits.{bits_below, set_bits}
use Rattle.words.proofs.LowestBit.{bit-lower}
use Rattle.words.proofs.RangeBits.{filter_same}
use Rattle.words.proofs.SetBitFacts.{no_bits_below, bits_next}
use Rattle.words.proofs.bits.SetBitsIterator.next.Goals as goal

-- r is the lowest, and what is left has the others
next : (m r left : ℕ) → r < 64 → ((i : ℕ) → i < r → bit i m ≡ false) → bit r m ≡ true →
    ((i : ℕ) → bit i left ≡ ltb r i && bit i m) → set_bits m ≡ r ∷ set_bits left
unfolding bits_below
next m r left h none own others = bits_next 64 r m h none own ∙ ap (λ (l : List ℕ). r ∷ l)
    (filter_same (λ i. bit i (bit_and m (m - 1))) (λ i. bit i left) 0 64
    (λ i a. bit-lower r m none own i ∙ sym (others i)))

pub returns-then-r-eq64-clause-steps : goal.returns-then-r-eq64-clause-steps
returns-then-r-eq64-clause-steps c =
    let m = c.args.self.now.left in
    let none : (i : ℕ) → i < 64 → bit i m ≡ false = λ i h. c.next_bit-r.ensures.2 i (omega arith) (omega arith) in
    let e = no_bits_below 64 m (no_bits 64 m (omega arith) none) in (e, e)

pub returns-clause-steps : goal.returns-clause-steps
returns-clause-steps c =
    let r = c.next_bit-r in
    let none : (i : ℕ) → i < r.result → bit i c.args.self.now.left ≡ false = λ i h. r.ensures.2 i (omega arith) h in
    let own = r.ensures.3 (omega arith) in
    next c.args.self.now.left r.result c.without_lowest-self.result (omega arith) none own
    (c.without_lowest-self.ensures r.result none own)

pub returns-clause-goes : goal.returns-clause-goes
returns-clause-goes c =
    let l = ap length (returns-clause-steps c) in record { on = λ _. (tt, tt, omega arith); keeps = tt; rests = λ _. tt }
