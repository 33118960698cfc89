-- Bytes put in a place, and gaps opened and closed, at any width.
use Rattle.std.specs.Prelude.{ℕ, ◌+◌, ◌-◌, List, ◌++◌, length, take, drop, replicate}

-- s with the bytes bs in the place of those from index `at`
unfoldable pub splice : ℕ → List ℕ → List ℕ → List ℕ
splice at bs s = take at s ++ bs ++ drop (at + length bs) s

-- s with the w bytes at `from` twice: what stands from there up to index `to` is moved up by w, and the w
-- bytes before `to` are lost
unfoldable pub gapped : ℕ → ℕ → ℕ → List ℕ → List ℕ
gapped from to w s = take (from + w) s ++ take (to - from - w) (drop from s) ++ drop to s

-- s without the w bytes at `from`, and with w zeros before index `to`
unfoldable pub gap_closed : ℕ → ℕ → ℕ → List ℕ → List ℕ
gap_closed from to w s = take from s ++ take (to - from - w) (drop (from + w) s) ++ replicate w 0 ++ drop to s
