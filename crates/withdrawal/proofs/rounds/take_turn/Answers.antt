-- Three cases: granted in the round, granted before it, and granted later.
use Rattle.withdrawal.proofs.TurnFacts.{turn_in_lem, turn_by, turn_out}
use Rattle.withdrawal.proofs.rounds.take_turn.Goals as goal

pub returns-then-times-g : goal.returns-then-times-g
returns-then-times-g c =
    let a = c.args in
    turn_in_lem a.cut a.times.from a.times.to _ a.body.now a.a a.pos c.if-times-g.true _ c.taken_stretch-taken.ensures _
    c.has-root.ensures _ _ c.put_pieces.ensures

pub returns-then-g-times : goal.returns-then-g-times
returns-then-g-times c =
    let a = c.args in
    turn_by a.cut a.times.from a.times.to _ a.body.now a.a a.pos c.if-times-g.false _ c.if-g-times.true c.skip.ensures

pub returns : goal.returns
returns c =
    let a = c.args in
    turn_out a.cut a.times.from a.times.to _ a.body.now a.a a.pos c.if-times-g.false c.if-g-times.false
