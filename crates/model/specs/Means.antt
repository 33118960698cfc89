-- What requests ask of every instant, in two readings: `plainly`, which is the definition, and `at_marks`,
-- which asks only where something can change and can therefore be computed. `same-means` (MeansFacts) proves
-- that they agree.
use Rattle.std.specs.Prelude.{ℕ, suc, Bool, not, ◌||◌, List, [], ◌∷◌, ◌++◌}
use Rattle.foundation.specs.declared.Interval.{Interval}
use Rattle.foundation.specs.Marks.{walk}
use Rattle.model.specs.declared.Head.{Head}
use Rattle.model.specs.declared.Authorization.{Authorization}
use Rattle.model.specs.declared.Rule.{Rule}
use Rattle.model.specs.declared.Request.{Request}
use Rattle.model.specs.Base.{Base}
use Rattle.model.specs.Support.{supported, live, covered_for, gaps}
use Rattle.model.specs.Withdrawal.{pieces, restrict}
use Rattle.model.specs.Requests.{takes, leave}

pub record Means : Type 0 where
  -- the authorizations without what the request takes
  pub left : Request → List Authorization → List Authorization
  -- restricted to their supported instants (`restrict`)
  pub restricted : (Head → Bool) → (Head → Bool) → List Authorization → List Authorization
  -- the maximal intervals that nothing covers for an authorization with that head
  pub uncovered : List Authorization → Head → Interval → List Interval

-- the definition
abbrev pub plainly : Means
plainly = record { left = leave; restricted = restrict; uncovered = gaps }

-- ---- at marks. The first argument is fuel, the most marks that a walk meets; it is a variable in every
-- proof

abbrev pub boundaries : Interval → List ℕ
boundaries i = i.start ∷ suc i.end ∷ []

abbrev pub marks_of : List Authorization → List ℕ
marks_of [] = []
marks_of (a ∷ rest) = a.interval.start ∷ suc a.interval.end ∷ marks_of rest

abbrev pub rule_marks : List Rule → List ℕ
rule_marks [] = []
rule_marks (r ∷ rest) = r.interval.start ∷ suc r.interval.end ∷ rule_marks rest

abbrev pub marks : List Authorization → List Rule → List ℕ
marks auths rules = marks_of auths ++ rule_marks rules

abbrev pub all_marks : Base → List ℕ
all_marks b = marks b.authorizations b.rules

unfoldable pub keep_at : ℕ → List ℕ → (Head → ℕ → Bool) → List Authorization → List Authorization
unfolding walk
keep_at n marks p [] = []
keep_at n marks p (a ∷ rest) =
    pieces a.head (walk (p a.head) marks a.interval.end n a.interval.start)
    ++ keep_at n marks p rest

unfoldable pub leave_at : ℕ → Request → List Authorization → List Authorization
unfolding keep_at
leave_at n q xs = keep_at n (boundaries q.interval) (λ h t. not (takes q h t)) xs

unfoldable pub restrict_at : ℕ → (Head → Bool) → (Head → Bool) → List Authorization → List Authorization
unfolding keep_at
restrict_at n root affected xs = keep_at n (marks_of xs)
    (λ h t. not (affected h) || supported root (live t xs) h) xs

unfoldable pub gaps_at : ℕ → List Authorization → Head → Interval → List Interval
unfolding walk covered_for
gaps_at n xs h i = walk (λ t. not (covered_for xs h t)) (marks_of xs) i.end n i.start

abbrev pub at_marks : ℕ → Means
at_marks n = record { left = leave_at n; restricted = restrict_at n; uncovered = gaps_at n }
