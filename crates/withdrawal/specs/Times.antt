-- The times that a round covers: from T on up to one behind the least that stands behind a later one, so that
-- what was granted then stands in the order of its times.
use Rattle.std.specs.Prelude.{◌≡◌, ℕ, ◌+◌, ◌≤◌, min, Bool, true, ◌&&◌, List, [], ◌∷◌, leb, ltb}
use Rattle.foundation.specs.Tests.{pick}
use Rattle.foundation.specs.Lists.{Mem}
use Rattle.model.specs.declared.Authorization.{Authorization}
use Rattle.pieces.specs.Stretches.{in_stretch}

-- granted from T on, before U
abbrev pub among : ℕ → ℕ → Authorization → Bool
among T U a = in_stretch T U a.head.granted

-- granted before the end of time
abbrev pub has_instant : Authorization → Bool
has_instant a = ltb a.head.granted 4294967296

-- what was granted from T on, before U, stands in the order of its times
abbrev pub InTime : ℕ → ℕ → List Authorization → Type 0
InTime T U [] = Unit {0}
InTime T U (a ∷ xs) =
    (among T U a ≡ true → (k : Authorization) → Mem k xs → among T U k ≡ true →
    a.head.granted ≤ k.head.granted)
    × InTime T U xs

-- the earlier of d and one behind g, if g is not before T and stands behind the later time `top`
abbrev pub pull_of : ℕ → ℕ → ℕ → ℕ → ℕ
pull_of T g top d = pick (in_stretch T top g) (min d (g + 1)) d

-- the latest time from T on so far
abbrev pub raise_of : ℕ → ℕ → ℕ → ℕ
raise_of T g top = pick (leb T g && leb top g) g top

-- one behind the least time from T on that stands behind a later one, or d; `top` is the latest before xs
unfoldable pub end_of : ℕ → List Authorization → ℕ → ℕ → ℕ
end_of T [] top d = d
end_of T (a ∷ xs) top d = end_of T xs (raise_of T a.head.granted top) (pull_of T a.head.granted top d)
