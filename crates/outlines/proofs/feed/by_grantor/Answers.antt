use mathlib.Core.Path.{sym}
use Rattle.foundation.specs.BitMasks.{bit}
use Rattle.foundation.specs.Tests.{eq_true, ne_false, and_yes}
use Rattle.outlines.proofs.feed.by_grantor.Goals as goal

pub returns-then-grantor-eq0 : goal.returns-then-grantor-eq0
returns-then-grantor-eq0 c =
    let a = c.args in
    λ q. rw (eq_true a.grantor 0 c.if-grantor-eq0.true) (sym (and_yes (bit q a.f)))

pub returns : goal.returns
returns c =
    let a = c.args in
    λ q. rw (ne_false a.grantor 0 c.if-grantor-eq0.false) (c.by_author.ensures q)
