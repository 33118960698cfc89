use native.Mathlib.Omega.{arith}
use mathlib.Core.Path.{sym}
use Rattle.foundation.specs.Tests.{le-true}
use Rattle.model.specs.Ranges.{last_instant}
use Rattle.answers.proofs.AnswersByRows.{reply_refused, reply_asked, reply_said}
use Rattle.answers.proofs.asking.may_prepared.Goals as goal

pub returns-in-Some : goal.returns-in-Some
returns-in-Some c =
    let instant = le-true c.args.q.instant last_instant (omega arith) in
    reply_refused c.args.s.now c.args.q c.requires.0 instant _ (sym c.in-Some.ensures)

pub holds_prepared-requires : goal.holds_prepared-requires
holds_prepared-requires c =
    let instant = le-true c.args.q.instant last_instant (omega arith) in
    (c.requires.0, reply_asked c.args.s.now c.args.q c.requires.0 instant (sym c.in-None.ensures), c.requires.1)

pub returns-in-None : goal.returns-in-None
returns-in-None c =
    let instant = le-true c.args.q.instant last_instant (omega arith) in
    reply_said c.args.s.now c.args.q c.requires.0 instant (sym c.in-None.ensures) c.holds_prepared.ensures c.may_reply.ensures
