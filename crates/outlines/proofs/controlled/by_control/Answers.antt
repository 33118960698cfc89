use Rattle.std.proofs.Common.{rules}
use Rattle.outlines.specs.LeftMasks.{controlled_by}
use Rattle.outlines.proofs.controlled.by_control.Goals as goal

pub returns : goal.returns
returns c =
    let a = c.args in
    c.those.ensures (controlled_by a.base.now.bytes.now a.body.now a.o) (λ q b e p. search rules)
