-- What a question can rest on, as accesses (`needed`).
use Rattle.std.specs.Prelude.{Bool, ◌&&◌, List, ℕ, ◌+◌}
use Rattle.model.specs.declared.Access.{Access}
use Rattle.reach.specs.Net.{has}
use Rattle.outlines.specs.Coordinates.{Chart, known, mode_of, pair_of}

-- an access is needed: it has a place, with both signs
unfoldable pub needed : Chart → Access → List ℕ → Access → Bool
needed C asked need x =
    known C asked x && has need (pair_of C asked x) (mode_of x) && has need (pair_of C asked x) (8 + mode_of x)
