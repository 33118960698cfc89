-- A question that no rule can answer, since no rule stands for one that derives the access: what the
-- authorizations alone say.
use Rattle.std.specs.Prelude.{Bool, true, false, not, ◌&&◌, List, ℕ, eqb}
use Rattle.foundation.specs.Lists.{anyb}
use Rattle.foundation.specs.Intervals.{in_interval}
use Rattle.model.specs.declared.Access.{Access}
use Rattle.model.specs.declared.Authorization.{Authorization}
use Rattle.model.specs.Support.{live}
use Rattle.model.specs.Rules.{fits, asked}

-- MAY's answer by the authorizations alone: a positive one has t, and no denial has
abbrev pub held_directly : List Authorization → Access → ℕ → Bool
held_directly xs x t = anyb (fits (asked x false)) (live t xs) && not (anyb (fits (asked x true)) (live t xs))

-- an authorization has t and is for the access, its sign aside
abbrev pub live_for : Access → ℕ → Authorization → Bool
live_for x t a =
    eqb a.head.subject x.subject
    && eqb a.head.mode x.mode
    && eqb a.head.object x.object
    && in_interval a.interval t
