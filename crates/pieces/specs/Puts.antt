-- What a change of a body of authorizations under construction answers and leaves. A body never has more than
-- 1,024 authorizations.
use Rattle.std.specs.Prelude.{◌≡◌, ℕ, ◌+◌, ◌<◌, List, length, Result, Ok, Err}
use Rattle.foundation.specs.Lists.{placed}
use Rattle.model.specs.declared.Authorization.{Authorization}
use Rattle.pieces.specs.declared.body.Full.{Full}

-- ps are put into ys at the place p, which gives zs, and the place behind them is answered; or they are too
-- many
abbrev pub Puts : ℕ → List Authorization → List Authorization → Result ℕ Full → List Authorization → Type 0
Puts p ps ys (Ok q) zs = (zs ≡ placed p ps ys) × (q ≡ p + length ps)
Puts p ps ys (Err e) zs = 1024 < length (placed p ps ys)

-- what a change that is to make ys of a body answers and leaves
abbrev pub Makes : {A : Type 0} → List Authorization → Result A Full → List Authorization → Type 0
Makes ys (Ok r) zs = zs ≡ ys
Makes ys (Err e) zs = 1024 < length ys
