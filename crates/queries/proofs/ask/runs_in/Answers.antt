use Rattle.model.specs.Rules.{may}
use Rattle.queries.proofs.QuestionBodies.{open_few, filling}
use Rattle.queries.proofs.ask.runs_in.Goals as goal

pub finish_runs-requires : goal.finish_runs-requires
finish_runs-requires c =
    let s = c in
    let b = s.requires.1 in
    λ o. open_few b.1 s.args.x _ _ _ (c.track_of-w.ensures b.0 b.1) o

pub returns : goal.returns
returns c =
    let f = c.finish_runs in
    let a = c.args in
    λ base b. filling b a.x f.result a.list.now _
    (f.ensures (may base a.x) a.list.now (c.track_of-w.ensures base b))
