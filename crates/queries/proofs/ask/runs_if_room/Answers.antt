use native.Mathlib.Omega.{arith}
use Prim.Native.Nat.{◌/◌, ◌≤◌}
use lib.ListN.{length}
use Rattle.model.specs.Base.{Base}
use Rattle.model.specs.Rules.{when}
use Rattle.queries.specs.AskedBases.{Asked}
use Rattle.queries.proofs.QuestionBodies.{most, listing, listing_short}
use Rattle.queries.proofs.ask.runs_if_room.Goals as goal
use Rattle.queries.proofs.ask.runs_if_room.Goals.{then-pairs-n+else-pairs-r, else-pairs-n}

pub returns-then-pairs-r : goal.returns-then-pairs-r
returns-then-pairs-r c =
    let r = c.runs_in-r in
    let a = c.args in
    λ base b. let e = r.ensures base b in
    listing_short b a.x r.result a.list.now (omega (arith, e.count, c.if-pairs-r.true)) e.count

pub returns : goal.returns
returns c =
    let room : (let a = c.args in (base : Base) → Asked a.base.now base → length (when base a.x) ≤ length a.list.now / 2) = λ base b. let a = c.args in
    elim c.if-pairs-n.branch [
      | then-pairs-n+else-pairs-r w ↦ omega (arith, (w.runs_in-r.ensures base b).count)
      | else-pairs-n w ↦ omega (arith, most b a.x)
    ] in
    let r = c.runs_in in
    let j = c in
    let a = c.args in
    λ base b. listing b a.x r.result a.list.now _ (room base b) (r.ensures base b)
