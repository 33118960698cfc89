use Rattle.std.proofs.Common.{ap, ◌∙◌, arith}
use Rattle.relevance.specs.Distance.{edge, reached}
use Rattle.relevance.proofs.Nearness.{closer}
use Rattle.relevance.proofs.distance.nearer_mark.Goals as goal

pub returns : goal.returns
returns c =
    let a = c.args in
    let d = c.distance_of in
    ap (reached a.t) c.min.ensures
    ∙ closer a.t a.best d.result (edge a.ends a.i) (omega arith) d.ensures
