-- The ones at the low end of a word and from a bit on, which the operators that look back want.
use Rattle.std.specs.Prelude.{Bool, ◌&&◌, ℕ, zero, suc, ◌+◌, ◌-◌, ◌/◌, ◌^◌, leb}
use Rattle.std.specs.Int.Bits.{bit_and}
use Rattle.foundation.specs.BitMasks.{bit}

-- every bit up to the i-th is set
abbrev pub up_to : ℕ → ℕ → Bool
up_to zero x = bit 0 x
up_to (suc i) x = up_to i x && bit (suc i) x

-- the ones at the low end
abbrev pub ones : ℕ → ℕ
ones x = x - bit_and x (x + 1)

-- ---- the ones from a bit on

-- every bit from the a-th to the i-th is set
abbrev pub all_from : ℕ → ℕ → ℕ → Bool
all_from a i x = leb a i && up_to (i - a) (x / 2 ^ a)
