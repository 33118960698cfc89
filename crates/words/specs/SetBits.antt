-- The set bits of a word, by their numbers: what an iterator over them gives, one after the other.
use Rattle.std.specs.Prelude.{Bool, List, ℕ, eqb}
use Rattle.std.specs.List.{filter, range_with_len, list_any}
use Rattle.foundation.specs.BitMasks.{bit}
use Rattle.words.specs.declared.bits.SetBits.{SetBits}

-- the numbers of the set bits below n, in rising order
unfoldable pub bits_below : ℕ → ℕ → List ℕ
bits_below n m = filter (λ i. bit i m) (range_with_len 0 n)

-- those of all set bits of a word
abbrev pub set_bits : ℕ → List ℕ
set_bits m = bits_below 64 m

-- those that are left
abbrev pub bits_left : SetBits → List ℕ
bits_left s = set_bits s.left

-- a number is in a list
abbrev pub among : ℕ → List ℕ → Bool
among i xs = list_any (eqb i) xs
