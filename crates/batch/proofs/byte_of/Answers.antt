use native.Mathlib.Omega.{arith}
use Prim.Native.Nat.{◌<◌}
use mathlib.Core.Path.{sym, ap, subst}
use Rattle.model.specs.declared.Reply.{Reply}
use Rattle.model.specs.Batch.{reply_byte}
use Rattle.batch.proofs.byte_of.Goals as goal

pub overflow_add-result : goal.overflow_add-result
overflow_add-result c =
    let small = subst (λ (r : Reply). reply_byte r < 256) c.in-Refused.is
    c.requires in
    omega (arith, small)

pub overflow_cast-result : goal.overflow_cast-result
overflow_cast-result c =
    let small = subst (λ (r : Reply). reply_byte r < 256) c.in-Refused.is
    c.requires in
    omega (arith, small)

pub returns-in-Refused : goal.returns-in-Refused
returns-in-Refused c = sym (ap reply_byte c.in-Refused.is)
