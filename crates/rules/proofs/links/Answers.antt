use Rattle.std.proofs.Common.{sym, ◌∙◌}
use mathlib.Core.Bool.{◌&&◌, not}
use Rattle.foundation.specs.Tests.{and-false, and_yes}
use Rattle.model.proofs.SideFacts.{links_eq}
use Rattle.rules.proofs.links.Goals as goal

pub returns-then-meets : goal.returns-then-meets
returns-then-meets c =
    let a = c.args in
    rw (
      links_eq a.q a.r,
      sym c.meets.ensures ∙ c.if-meets.true,
      c.meets-then-meets.ensures,
      c.meets-then-meets-2.ensures,
      c.from.ensures,
      c.from-then-meets.ensures,
      and_yes (a.q.left.negative && not a.r.right.negative),
    )

pub returns-else-meets : goal.returns-else-meets
returns-else-meets c =
    let a = c.args in
    rw (c.if-meets.false, links_eq a.q a.r, sym c.meets.ensures ∙ c.if-meets.false, and-false (a.q.left.negative && not a.r.right.negative))
