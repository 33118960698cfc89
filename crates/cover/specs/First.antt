-- The first instant of a stretch that passes a test.
use Rattle.std.specs.Prelude.{ℕ, zero, suc, ◌-◌, Bool}
use Rattle.foundation.specs.Tests.{pick}

-- the first of the n instants from s on that passes, or d
abbrev pub first_from : (ℕ → Bool) → ℕ → ℕ → ℕ → ℕ
first_from g s zero d = d
first_from g s (suc n) d = let r = first_from g (suc s) n d in pick (g s) s r

-- the first instant from a on, below b, that passes; b if there is none
unfoldable pub first : (ℕ → Bool) → ℕ → ℕ → ℕ
first g a b = first_from g a (b - a) b
