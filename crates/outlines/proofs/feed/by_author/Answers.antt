use Rattle.std.proofs.Common.{rules}
use Rattle.std.specs.Prelude.{eqb}
use Rattle.encoding.specs.Format.{rule_at}
use Rattle.outlines.proofs.feed.by_author.Goals as goal

pub returns : goal.returns
returns c =
    let a = c.args in
    c.those.ensures (λ q. eqb a.author (rule_at a.body.now q).author) (λ q b e p. search rules)
