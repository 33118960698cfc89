-- The set bits of a word by their numbers: the lowest comes first (`bits_next`), the highest last (`bits_last`), they are the set bits
-- (`among_bits`), rise (`bits_rise`) and are no more than there are places (`length_bits`).
use Rattle.std.specs.Prelude.{◌≡◌, refl, Bool, true, false, ◌&&◌, List, [], ◌∷◌, ◌++◌, ℕ, ◌+◌, ◌-◌, ◌≤◌, ◌<◌, leb, ltb, length}
use Rattle.std.proofs.Common.{ap, ◌∙◌, arith}
use Rattle.std.proofs.Math.Nat.{zero-add}
use Rattle.std.specs.Int.Bits.{bit_and}
use Rattle.std.specs.List.{filter, range_with_len}
use Rattle.std.specs.List.{range_with_len}
use Rattle.std.specs.List.Sorted.{IsStrictlyIncreasing}
use Rattle.std.proofs.lemmas.List.Kept.{IsStrictlyIncreasing-filter}
use Rattle.std.proofs.lemmas.List.FromFn.{get_or-range_with_len, length-range_with_len}
use Rattle.std.proofs.lemmas.List.Sums.{length-filter, count_by-le-length}
use Rattle.std.proofs.lemmas.Bool.Decides.{nat_tests}
use Rattle.foundation.specs.BitMasks.{bit, bit-zero}
use Rattle.words.specs.SetBits.{bits_below, among}
use Rattle.words.proofs.RangeBits.{filter_none, filter_first, filter_last, among_range, split_range}
use Rattle.words.proofs.LowestBit.{bit-lower}

pub no_bits_below : (n m : ℕ) → m ≡ 0 → bits_below n m ≡ []
unfolding bits_below
no_bits_below n m e = rw e (filter_none (λ i. bit i 0) 0 n (λ i l. bit-zero i))

-- k being the lowest
pub bits_next : (n k m : ℕ) → k < n → ((i : ℕ) → i < k → bit i m ≡ false) → bit k m ≡ true →
    bits_below n m ≡ k ∷ bits_below n (bit_and m (m - 1))
unfolding bits_below
bits_next n k m h none own =
    filter_first (λ i. bit i m) (λ i. bit i (bit_and m (m - 1))) k 0 n (omega arith) (omega arith)
    none own (bit-lower k m none own)

-- k being the highest
pub bits_last : (n k m r : ℕ) → k < n → ((i : ℕ) → k < i → bit i m ≡ false) → bit k m ≡ true →
    ((i : ℕ) → bit i r ≡ ltb i k && bit i m) → bits_below n m ≡ bits_below n r ++ k ∷ []
unfolding bits_below
bits_last n k m r h none own others =
    filter_last (λ i. bit i m) (λ i. bit i r) k 0 n (omega arith) (omega arith) none own others

from_none : (i n k : ℕ) (t : Bool) → k ≡ n → leb 0 i && (ltb i k && t) ≡ ltb i n && t
from_none i n k t e = grind (arith, nat_tests)

pub among_bits : (i n m : ℕ) → among i (bits_below n m) ≡ ltb i n && bit i m
unfolding bits_below
among_bits i n m = among_range (λ j. bit j m) 0 n i ∙ from_none i n (0 + n) (bit i m) (omega arith)

-- r is one of them: what stands before it, xs, and what behind, ys
pub record Around (n m r : ℕ) (xs ys : List ℕ) : Type 0 where
  pub low : r < n
  pub own : bit r m ≡ true
  pub front : xs ≡ bits_below r m
  pub before : (i : ℕ) → among i xs ≡ ltb i r && bit i m
  pub behind : (i : ℕ) → among i ys ≡ ltb r i && (ltb i n && bit i m)

pub around : (n m r : ℕ) (xs ys : List ℕ) → bits_below n m ≡ xs ++ r ∷ ys → Around n m r xs ys
unfolding bits_below
around n m r xs ys e =
    let s = split_range (λ j. bit j m) 0 n r xs ys e in record {
      low = omega (arith, s.high);
      own = s.own;
      front = let e : r - 0 ≡ r = omega arith in s.front ∙ ap (λ (k : ℕ). filter (λ j. bit j m) (range_with_len 0 k)) e;
      before = λ i. s.before i ∙ from_none i r r (bit i m) refl;
      behind = λ i. s.behind i ∙ ap (λ (k : ℕ). ltb r i && (ltb i k && bit i m)) (zero-add n);
    }

pub bits_rise : (n m : ℕ) → IsStrictlyIncreasing (bits_below n m)
unfolding bits_below
bits_rise n m = IsStrictlyIncreasing-filter (λ i. bit i m) (range_with_len 0 n) (λ k h.
    let l : k + 1 < n = omega (arith, length-range_with_len 0 n) in
    omega (arith, get_or-range_with_len 0 n k 0 (omega arith), get_or-range_with_len 0 n (k + 1) 0 l))

pub length_bits : (n m : ℕ) → length (bits_below n m) ≤ n
unfolding bits_below
length_bits n m =
    let p : ℕ → Bool = λ i. bit i m in
    let l : List ℕ = range_with_len 0 n in
    omega (arith, length-filter p l, count_by-le-length p l, length-range_with_len 0 n)
