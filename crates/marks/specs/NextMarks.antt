-- The next mark, mark by mark.
use Rattle.std.specs.Prelude.{ℕ, ◌&&◌, ltb}
use Rattle.foundation.specs.Tests.{pick}

-- m, if it is above t and below r; else r
abbrev pub sooner : ℕ → ℕ → ℕ → ℕ
sooner t m r = pick (ltb t m && ltb m r) m r
