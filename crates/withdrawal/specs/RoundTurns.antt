-- A turn of a round: which pieces go in for an authorization of the base, how many are passed over
-- (`leading-left`), and what is answered.
use Rattle.std.specs.Prelude.{◌≡◌, ℕ, ◌+◌, ◌<◌, Bool, ◌&&◌, List, [], ◌∷◌, leb, ltb, eqb, length, Result, Ok, Err}
use Rattle.foundation.specs.Tests.{pick}
use Rattle.foundation.specs.Lists.{placed}
use Rattle.model.specs.declared.Authorization.{Authorization}
use Rattle.pieces.specs.declared.cut.Cut.{Cut}
use Rattle.pieces.specs.declared.body.Full.{Full}
use Rattle.pieces.specs.Cuts.{taken_of}
use Rattle.pieces.specs.CutParts.{parts_of}
use Rattle.withdrawal.specs.Times.{among}

-- ---- passing over pieces

-- x is a piece of a, as its label and its start tell
abbrev pub piece_of : Authorization → Authorization → Bool
piece_of a x = eqb x.head.label a.head.label && leb x.interval.start a.interval.end

-- how many of the first elements pass
abbrev pub leading : (Authorization → Bool) → List Authorization → ℕ
leading p [] = 0
leading p (x ∷ xs) = pick (p x) (leading p xs + 1) 0

-- ---- a turn

-- what goes in for a, and how many are passed over
abbrev pub in_of : Cut → ℕ → ℕ → Bool → List Authorization → Authorization → List Authorization
in_of c T U root os a = pick (among T U a) (parts_of (taken_of c a.head) root os a) []

abbrev pub by_of : ℕ → Authorization → List Authorization → ℕ
by_of T a os = pick (ltb a.head.granted T) (leading (piece_of a) os) 0

-- what a turn answers and leaves
abbrev pub TurnMakes : ℕ → List Authorization → ℕ → List Authorization → Result ℕ Full → List Authorization →
    Type 0
TurnMakes pos ps by os (Ok p) zs = (zs ≡ placed pos ps os) × (p ≡ pos + length ps + by)
TurnMakes pos ps by os (Err e) zs = 1024 < length (placed pos ps os)
