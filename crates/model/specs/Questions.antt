-- What the two questions ask of every instant, in two readings, as Means has them for requests: `as_defined`
-- and `read_at_marks`. `same-questions` (MeansFacts) proves that they agree.
use Rattle.std.specs.Prelude.{ℕ, Bool, not, List}
use Rattle.foundation.specs.declared.Interval.{Interval}
use Rattle.foundation.specs.Intervals.{none?}
use Rattle.foundation.specs.Marks.{walk}
use Rattle.model.specs.declared.Access.{Access}
use Rattle.model.specs.Ranges.{last_instant}
use Rattle.model.specs.Base.{Base}
use Rattle.model.specs.Rules.{may_with, may, when}
use Rattle.model.specs.Means.{all_marks}

pub record Questions : Type 0 where
  pub may_at : Base → Access → ℕ → Bool
  pub when_in : Base → Access → List Interval

-- the definition
abbrev pub as_defined : Questions
as_defined = record { may_at = may; when_in = when }

-- f holds at every instant from a to t, asked at a and at marks
unfoldable pub always_at : ℕ → List ℕ → ℕ → ℕ → (ℕ → Bool) → Bool
unfolding walk
always_at n marks a t f = none? (walk (λ u. not (f u)) marks t n a)

unfoldable pub may_at_marks : ℕ → Base → Access → ℕ → Bool
unfolding may_with always_at
may_at_marks n b x t = may_with (always_at n (all_marks b)) b x t

unfoldable pub when_at_marks : ℕ → Base → Access → List Interval
unfolding walk may_at_marks
when_at_marks n b x = walk (λ t. may_at_marks n b x t) (all_marks b) last_instant n 0

abbrev pub read_at_marks : ℕ → Questions
read_at_marks n = record { may_at = may_at_marks n; when_in = when_at_marks n }
