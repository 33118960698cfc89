-- What a cut leaves of one authorization: the maximal intervals of the instants that it spares and at which
-- the grantor may grant, as two parts around what is taken.
use Rattle.std.specs.Prelude.{ℕ, ◌+◌, min, max, Bool, ◌||◌, List, ◌++◌}
use Rattle.model.specs.declared.Head.{Head}
use Rattle.model.specs.declared.Authorization.{Authorization}
use Rattle.model.specs.Withdrawal.{pieces}
use Rattle.cover.specs.declared.Want.{Want}
use Rattle.cover.specs.Cover.{want_of, covered_by}
use Rattle.pieces.specs.declared.cut.Stretch.{Stretch}
use Rattle.pieces.specs.Stretches.{maximal_to}

-- the grantor may grant at t: as a root, or covered by ys
abbrev pub may_grant : Bool → Want → List Authorization → ℕ → Bool
may_grant root w ys t = root || covered_by w ys t

-- the pieces of h from a on, before b, at which its grantor may grant
unfoldable pub pieces_to : Bool → List Authorization → Head → ℕ → ℕ → List Authorization
pieces_to root ys h a b = pieces h (maximal_to a b (may_grant root (want_of h) ys))

-- what is left of an authorization around the instants `taken`
unfoldable pub parts_of : Stretch → Bool → List Authorization → Authorization → List Authorization
unfolding pieces_to
parts_of taken root ys x =
    let e = x.interval.end + 1 in
    pieces_to root ys x.head x.interval.start (min e taken.from)
    ++ pieces_to root ys x.head (max x.interval.start taken.to) e
