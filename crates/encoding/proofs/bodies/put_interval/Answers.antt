use native.Mathlib.Omega.{arith}
use mathlib.Core.Path.{refl}
use Rattle.fields.proofs.ByteLaws.{splice-then}
use Rattle.encoding.proofs.bodies.put_interval.Goals as goal

pub returns : goal.returns
returns c =
    let c₁ = c in
    let a = c₁.args in
    splice-then a.at 4 _ _ a.s.now (omega arith) refl c₁.put32.ensures
    c.put32-2.ensures
