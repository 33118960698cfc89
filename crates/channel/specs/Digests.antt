-- The digest of bytes, going on from that of bytes before them: every byte and its place bear on it.
use Rattle.std.specs.Prelude.{ℕ, ◌+◌, ◌*◌, ◌%◌, List, [], ◌∷◌}

-- 4294967291 is the largest prime below 2 ^ 32
abbrev pub mixed : ℕ → ℕ → ℕ
mixed before byte = (before * 257 + byte + 1) % 4294967291

unfoldable pub digest : ℕ → List ℕ → ℕ
digest before [] = before
digest before (c ∷ text) = digest (mixed before c) text
