-- Instants taken out of authorizations (01, "Requests": withdrawals).
use Rattle.std.specs.Prelude.{ℕ, Bool, not, ◌||◌, List, [], ◌∷◌, ◌++◌, map}
use Rattle.foundation.specs.declared.Interval.{Interval}
use Rattle.foundation.specs.Intervals.{maximal}
use Rattle.model.specs.declared.Head.{Head}
use Rattle.model.specs.declared.Authorization.{Authorization}
use Rattle.model.specs.Support.{supported, live}

abbrev pub authorization : Head → Interval → Authorization
authorization h i = record { head = h; interval = i }

-- 01: "Pieces keep label and granted-at": all that the authorizations of one label share
abbrev pub pieces : Head → List Interval → List Authorization
pieces h is = map (authorization h) is

-- each authorization replaced by the maximal intervals of its instants that p keeps
unfoldable pub keep : (Head → ℕ → Bool) → List Authorization → List Authorization
keep p [] = []
keep p (a ∷ rest) =
    pieces a.head (maximal a.interval.start a.interval.end (p a.head)) ++ keep p rest

-- 01: "then take out of the lines on that object and mode every instant that is not backed": `affected` says
-- which authorizations are looked at, `root` which heads are given by an owner or administrator
unfoldable pub restrict : (Head → Bool) → (Head → Bool) → List Authorization → List Authorization
unfolding keep
restrict root affected xs = keep (λ h t. not (affected h) || supported root (live t xs) h) xs
