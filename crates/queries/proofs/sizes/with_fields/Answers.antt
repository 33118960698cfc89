use native.Mathlib.Omega.{arith}
use Rattle.queries.proofs.TableWalks.{any_room}
use Rattle.queries.proofs.sizes.with_fields.Goals as goal

pub walk-requires-2 : goal.walk-requires-2
walk-requires-2 c =
    let p = c.requires in
    (p.0, omega arith, any_room _ _ _ _ _ _ p.0 p.1, p.1)
