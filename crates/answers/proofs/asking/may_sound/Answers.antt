use native.Mathlib.Omega.{arith}
use mathlib.Core.Path.{sym}
use Rattle.foundation.specs.Tests.{le-true}
use Rattle.model.specs.Ranges.{last_instant}
use Rattle.answers.proofs.AnswersByRows.{reply_refused, reply_asked, reply_said}
use Rattle.answers.proofs.asking.may_sound.Goals as goal

pub returns-in-Some : goal.returns-in-Some
returns-in-Some c =
    let instant = le-true c.args.q.instant last_instant (omega arith) in
    reply_refused c.args.s.now c.args.q c.requires instant _ (sym c.in-Some.ensures)

pub holds_at-requires : goal.holds_at-requires
holds_at-requires c =
    let instant = le-true c.args.q.instant last_instant (omega arith) in
    (c.requires, reply_asked c.args.s.now c.args.q c.requires instant (sym c.in-None.ensures))

pub returns-in-None : goal.returns-in-None
returns-in-None c =
    let instant = le-true c.args.q.instant last_instant (omega arith) in
    reply_said c.args.s.now c.args.q c.requires instant (sym c.in-None.ensures) c.holds_at.ensures c.may_reply.ensures
