use native.Mathlib.Omega.{arith}
use mathlib.Core.Path.{refl}
use Prim.Native.Nat.{◌+◌, ◌≤◌}
use lib.ListN.{length}
use Rattle.fields.proofs.ByteLaws.{part-put, splice-then}
use Rattle.encoding.proofs.bodies.put_authorization.Goals as goal

pub returns : goal.returns
returns c =
    let at = c.args.at in
    let s = c.args.s.now in
    let p : at + 24 ≤ length s = c.requires in
    let flags = rw c.head_flags.ensures at c.copy_from_slice.ensures.after in
    let e₂ = splice-then at 4 _ _ s (omega arith) refl c.put_pair.ensures c.put_pair-2.ensures in
    let e₃ = splice-then at 8 _ _ s (omega arith) refl e₂ (part-put (at + 8) (at + 12) _ flags (omega arith)) in
    let e₄ = splice-then at 12 _ _ s (omega arith) refl e₃ c.put32.ensures in
    splice-then at 16 _ _ s (omega arith) refl e₄ c.put_interval.ensures
