use borrow.Author.Tests.{lt-ltb, le-ltb}
use Rattle.foundation.specs.Intervals.{interval}
use Rattle.cover.proofs.GapFacts.{first-gap_is}
use Rattle.cover.proofs.first_gap.Goals as goal

pub returns-then-t-b : goal.returns-then-t-b
returns-then-t-b c =
    let a = c.args in
    first-gap_is a.w a.authorizations.now (interval a.a a.e) _
    (let e = c.gap_from-t.ensures in rw (← e, lt-ltb _ _ c.if-t-b.true))

pub returns-else-t-b : goal.returns-else-t-b
returns-else-t-b c =
    let a = c.args in
    first-gap_is a.w a.authorizations.now (interval a.a a.e) _
    (let e = c.gap_from-t.ensures in rw (← e, le-ltb _ _ c.if-t-b.false))
