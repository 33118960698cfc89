-- The earliest uncovered instant, as it is answered, and what it says in the model's words: of the gaps under
-- a new authorization.
use Rattle.std.specs.Prelude.{◌≡◌, ℕ, ◌+◌, true, false, List, Option, Some, None, ltb}
use Rattle.foundation.specs.Tests.{pick}
use Rattle.foundation.specs.declared.Interval.{Interval}
use Rattle.foundation.specs.Intervals.{none?, first_start}
use Rattle.model.specs.declared.Head.{Head}
use Rattle.model.specs.declared.Authorization.{Authorization}
use Rattle.model.specs.Support.{gaps}
use Rattle.cover.specs.declared.Want.{Want}
use Rattle.cover.specs.Cover.{want_of, gap_in}

-- t, if it is below b
abbrev pub gap_of : ℕ → ℕ → Option ℕ
gap_of t b = pick (ltb t b) (Some t) None

-- what an answer says of the gaps: where the first starts, or that there is none
abbrev pub GapIs : List Authorization → Head → Interval → Option ℕ → Type 0
GapIs xs h i (Some t) = (none? (gaps xs h i) ≡ false) × (t ≡ first_start (gaps xs h i))
GapIs xs h i None = none? (gaps xs h i) ≡ true

-- what is said of the answer to what is wanted: it is the first uncovered instant, and so what the model says
-- of any head for which that is wanted
pub record FirstGap (w : Want) (xs : List Authorization) (i : Interval) (r : Option ℕ) : Type 0 where
  pub first : r ≡ gap_of (gap_in w xs i.start (i.end + 1)) (i.end + 1)
  pub model : (h : Head) → w ≡ want_of h → GapIs xs h i r
