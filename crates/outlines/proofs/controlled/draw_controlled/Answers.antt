use Rattle.outlines.proofs.Controlling.{none_starred}
use Rattle.outlines.proofs.controlled.draw_controlled.Goals as goal

pub returns-then-left-eq0 : goal.returns-then-left-eq0
returns-then-left-eq0 c =
    let a = c.args in
    none_starred a.base.now.bytes.now a.body.now a.objects.now a.left.now c.if-left-eq0.true

pub returns : goal.returns
returns c = c.join_each.ensures
