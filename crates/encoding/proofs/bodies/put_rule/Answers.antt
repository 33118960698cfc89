use native.Mathlib.Omega.{arith}
use mathlib.Core.Path.{refl}
use Prim.Native.Nat.{◌+◌, ◌≤◌}
use lib.ListN.{length}
use Rattle.fields.proofs.ByteLaws.{splice-then}
use Rattle.encoding.proofs.bodies.put_rule.Goals as goal

pub returns : goal.returns
returns c =
    let c₆ = c in
    let c₅ = c₆ in
    let c₄ = c₅ in
    let c₃ = c₄ in
    let c₂ = c₃ in
    let c₁ = c₂ in
    let c₀ = c₁ in
    let at = c₀.args.at in
    let s = c₀.args.s.now in
    let p : at + 28 ≤ length s = c₀.requires in
    let e₂ = splice-then at 4 _ _ s (omega arith) refl c₁.put_pair.ensures c₂.put_pair-2.ensures in
    let e₃ = splice-then at 8 _ _ s (omega arith) refl e₂ c₃.put_pair-3.ensures in
    let e₄ = splice-then at 12 _ _ s (omega arith) refl e₃ c₄.put16.ensures in
    let e₅ = splice-then at 14 _ _ s (omega arith) refl e₄ c₅.put_modes.ensures in
    splice-then at 20 _ _ s (omega arith) refl e₅ c₆.put_interval.ensures
