-- What of a word is not in another.
use Rattle.std.specs.Prelude.{ℕ, ◌-◌}
use Rattle.std.specs.Int.Bits.{bit_and}

abbrev pub less : ℕ → ℕ → ℕ
less a b = a - bit_and a b
