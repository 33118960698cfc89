use Rattle.scan.proofs.RunFacts.{complete_open, complete_none}
use Rattle.scan.proofs.runs.finish_runs.Goals as goal

pub returns-in-Some : goal.returns-in-Some
returns-in-Some c =
    let a = c.args in
    λ f lent r. complete_open f a.e lent a.w a.list.now r c.in-Some.from c.in-Some.is _ c.put_run.ensures

pub returns-in-None : goal.returns-in-None
returns-in-None c =
    let a = c.args in
    λ f lent r. complete_none f a.e lent a.w a.list.now r c.in-None.is
