-- The places of the rules of a mask.
use Rattle.std.specs.Prelude.{ℕ, zero, suc, ◌+◌}
use Rattle.foundation.specs.BitMasks.{as_bit, bit}

-- how many bits of a mask lie below r: at which place of the selected rules rule r stands
abbrev pub position : ℕ → ℕ → ℕ
position m zero = 0
position m (suc r) = position m r + as_bit (bit r m)
