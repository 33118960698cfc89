-- MAY's answer by the authorizations for an access, which are chosen first.
use Rattle.std.specs.Prelude.{Bool, true, false, not, ◌&&◌, List, ℕ, eqb}
use Rattle.std.specs.Bool.{beq}
use Rattle.foundation.specs.Lists.{anyb}
use Rattle.foundation.specs.Intervals.{in_interval}
use Rattle.model.specs.declared.Access.{Access}
use Rattle.model.specs.declared.Authorization.{Authorization}

-- an authorization is for the access, its sign aside
abbrev pub is_for : Access → Authorization → Bool
is_for x a =
    eqb a.head.subject x.subject
    && eqb a.head.mode x.mode
    && eqb a.head.object x.object

-- it has t and that sign
abbrev pub signed_at : ℕ → Bool → Authorization → Bool
signed_at t negative a = in_interval a.interval t && beq a.head.negative negative

-- a positive one has t, and no denial has
abbrev pub held_among : List Authorization → ℕ → Bool
held_among xs t = anyb (signed_at t false) xs && not (anyb (signed_at t true) xs)
