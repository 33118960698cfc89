use Prim.Native.Nat.{◌<◌}
use mathlib.Core.Path.{sym, ap, subst, ◌∙◌}
use Rattle.model.specs.declared.Reply.{Reply}
use Rattle.model.specs.Batch.{reply_byte, byte_for}
use Rattle.model.proofs.BatchFacts.{byte_small}
use Rattle.batch.proofs.byte_for.Goals as goal

pub byte_of-requires : goal.byte_of-requires
byte_of-requires c =
    let a = c.args in
    subst (λ (r : Reply). reply_byte r < 256) (sym c.may_prepared.ensures)
    (byte_small a.base.now a.q)

pub returns : goal.returns
unfolding byte_for
returns c = c.byte_of.ensures ∙ ap reply_byte c.may_prepared.ensures
