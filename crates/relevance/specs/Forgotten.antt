-- Authorizations that have none of the asked instants are passed over, and those that have ended are
-- forgotten.
use Rattle.std.specs.Prelude.{◌≡◌, ℕ, ◌<◌, ◌≤◌, Bool, List, length, nat_le, slice_index}
use Rattle.foundation.specs.Lists.{keep_if}
use Rattle.foundation.specs.Intervals.{interval, overlap}
use Rattle.model.specs.declared.Authorization.{Authorization}
use Rattle.relevance.specs.Chosen.{picked}

-- an authorization that does not end before t
abbrev pub ends_from : ℕ → Authorization → Bool
ends_from t a = nat_le t a.interval.end

-- an authorization has an instant from `from` to `to`
abbrev pub during : ℕ → ℕ → Authorization → Bool
during from to a = overlap (interval from to) a.interval

-- the first r numbers that are left of n
pub record Forgets (s : List ℕ) (n t : ℕ) (entry exit : List ℕ) (r : ℕ) : Type 0 where
  pub left : picked s exit r ≡ keep_if (ends_from t) (picked s entry n)
  pub few : r ≤ n
  pub old : (j : ℕ) → j < n → (i : ℕ) × (i < n) × (slice_index exit j ≡ slice_index entry i)
  pub same_length : length exit ≡ length entry
