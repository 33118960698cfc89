use mathlib.Core.Path.{sym, ◌∙◌}
use Rattle.scan.proofs.RunFacts.{closed_run}
use Rattle.scan.proofs.runs.note.Goals as goal

pub returns-in-Some-false-clause-by_index : goal.returns-in-Some-false-clause-by_index
returns-in-Some-false-clause-by_index c =
    let a = c.args in
    let i = c.in-Some-false in
    λ f e lent r q h. closed_run f e lent a.t a.w a.list.now r i.from i.is-0 h (sym q ∙ i.is-1) _ c.put_run.ensures
