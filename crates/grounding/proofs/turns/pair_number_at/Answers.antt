use native.Mathlib.Omega.{arith}
use Prim.Native.Nat.{suc}
use lib.ListN.{length}
use Rattle.foundation.specs.Tests.{le-true, le-false}
use Rattle.grounding.proofs.turns.pair_number_at.Goals as goal

pub returns-then-j-number : goal.returns-then-j-number
returns-then-j-number c =
    let a = c.args in
    rw (le-true (suc a.j) (length a.number.now) (omega arith)) c.from.ensures

pub returns : goal.returns
returns c =
    let a = c.args in
    rw (le-false (suc a.j) (length a.number.now) (omega arith))
