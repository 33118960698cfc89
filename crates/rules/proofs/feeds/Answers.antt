use Rattle.std.proofs.Common.{sym, ◌∙◌}
use mathlib.Core.Bool.{beq}
use Rattle.foundation.specs.Tests.{and-false, and_yes}
use Rattle.model.proofs.SideFacts.{feeds_eq}
use Rattle.rules.proofs.feeds.Goals as goal

pub returns-then-meets : goal.returns-then-meets
returns-then-meets c =
    let a = c.args in
    rw (
      feeds_eq a.q a.r,
      sym c.meets.ensures ∙ c.if-meets.true,
      c.meets-then-meets.ensures,
      c.meets-then-meets-2.ensures,
      c.from.ensures,
      c.from-then-meets.ensures,
      c.fits_option.ensures,
      and_yes (beq a.q.left.negative a.r.right.negative),
    )

pub returns-else-meets : goal.returns-else-meets
returns-else-meets c =
    let a = c.args in
    rw (c.if-meets.false, feeds_eq a.q a.r, sym c.meets.ensures ∙ c.if-meets.false, and-false (beq a.q.left.negative a.r.right.negative))
