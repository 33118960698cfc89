use native.Mathlib.Omega.{arith}
use mathlib.Core.Path.{refl}
use Rattle.fields.proofs.ByteLaws.{splice-then}
use Rattle.encoding.proofs.bodies.put_pair.Goals as goal

pub returns : goal.returns
returns c =
    let c₁ = c in
    let a = c₁.args in
    splice-then a.at 2 _ _ a.s.now (omega arith) refl c₁.put16.ensures
    c.put16-2.ensures
