-- What matters of a base's bytes: authorizations by their numbers, and rules by a bit each.
use Rattle.std.specs.Prelude.{ℕ, suc, ◌+◌, ◌*◌, ◌<◌, ◌≤◌, List, [], ◌∷◌, map, length, take, drop, slice_index}
use Rattle.foundation.specs.Tests.{pick}
use Rattle.foundation.specs.BitMasks.{bit}
use Rattle.model.specs.declared.Authorization.{Authorization}
use Rattle.model.specs.Encoding.{authorization_of}
use Rattle.model.specs.Means.{marks}
use Rattle.encoding.specs.Format.{rules_in}
use Rattle.relevance.specs.declared.Chosen.{Chosen}

-- ---- authorizations

-- the authorization of that number
abbrev pub authorization_at : List ℕ → ℕ → Authorization
authorization_at s i = authorization_of (drop (i * 24) s)

-- those of the first n numbers, in their order
unfoldable pub picked : List ℕ → List ℕ → ℕ → List Authorization
picked s which n = map (authorization_at s) (take n which)

-- there are n numbers, each of an authorization that lies in the bytes
pub record Picks (s : List ℕ) (which : List ℕ) (n : ℕ) : Type 0 where
  pub room : n ≤ length which
  pub inside : (j : ℕ) → j < n → slice_index which j * 24 + 24 ≤ length s

-- ---- rules

module _ {A : Type 0} (m : ℕ) where
  -- those of a list whose bit is set, the first having bit i
  abbrev pub selected_from : ℕ → List A → List A
  selected_from i [] = []
  selected_from i (x ∷ xs) = let r = selected_from (suc i) xs in pick (bit i m) (x ∷ r) r

  abbrev pub selected : List A → List A
  selected xs = selected_from 0 xs

-- ---- both

-- the bytes hold what matters
pub record Matters (lines which body : List ℕ) (c : Chosen) : Type 0 where
  pub picks : Picks lines which c.authorizations
  pub bodies : c.rules * 28 ≤ length body
  pub few : c.rules ≤ 64

-- the marks of what matters
unfoldable pub marks_for : List ℕ → List ℕ → List ℕ → Chosen → List ℕ
marks_for lines which body c =
    marks (picked lines which c.authorizations) (selected c.needed (rules_in c.rules body))
