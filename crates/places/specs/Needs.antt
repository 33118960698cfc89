-- What is needed at a pair is a word of 16 bits: bit m for mode m, positive, and bit 8 + m for it, denied.
use Rattle.std.specs.Prelude.{Bool, ◌&&◌, ◌||◌, ℕ, ◌+◌, ◌*◌, ◌/◌, ◌%◌, ◌^◌}
use Rattle.foundation.specs.BitMasks.{bit}

-- a mode with signs (1: positive, 2: denied, 3: both)
abbrev pub needs_of : ℕ → ℕ → ℕ
needs_of signs m = (signs % 2 + 256 * (signs / 2)) * 2 ^ m

-- a mode with both
abbrev pub both_signs : ℕ → ℕ
both_signs m = 257 * 2 ^ m

-- a mode is needed with both signs
abbrev pub both_at : ℕ → ℕ → Bool
both_at w m = bit m w && bit (8 + m) w

-- or with either
abbrev pub either_at : ℕ → ℕ → Bool
either_at w m = bit m w || bit (8 + m) w
