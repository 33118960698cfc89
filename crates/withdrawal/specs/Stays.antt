-- What a withdrawal leaves, as one test of instants, and what of it those granted before a time leave
-- (`until_instant`).
use Rattle.std.specs.Prelude.{ℕ, Bool, ◌&&◌, List, ltb}
use Rattle.model.specs.declared.Head.{Head}
use Rattle.model.specs.declared.Authorization.{Authorization}
use Rattle.model.specs.Support.{supported, live}
use Rattle.model.specs.Withdrawal.{keep}

-- ---- what stays

module _ (root : Head → Bool) (p : Head → ℕ → Bool) (xs : List Authorization) where
  -- not taken out, and supported by what was not taken out
  unfoldable pub stays : Head → ℕ → Bool
  stays h t = p h t && supported root (live t (keep p xs)) h

-- ---- what was granted before a time

-- r for what was granted before T, and nothing of the rest
abbrev pub until_instant : ℕ → (Head → ℕ → Bool) → Head → ℕ → Bool
until_instant T r h t = ltb h.granted T && r h t
