use Rattle.std.proofs.Common.{min, ap, ◌∙◌}
use Rattle.relevance.proofs.Nearness.{promised}
use Rattle.relevance.proofs.ahead.next_of.Goals as goal

pub returns : goal.returns
returns c =
    let n = c.args.n in
    λ xs rs t w. promised xs rs t n w c.min-3.result
    (c.min-3.ensures
    ∙ ap (min n.lines.starts) (c.min-2.ensures
    ∙ ap (min n.lines.ends) c.min.ensures))
