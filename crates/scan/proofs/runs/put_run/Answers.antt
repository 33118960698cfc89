use native.Mathlib.Omega.{arith}
use mathlib.Core.Path.{sym}
use Rattle.scan.proofs.FilledFacts.{pair_put, pair_left}
use Rattle.scan.proofs.runs.put_run.Goals as goal

pub returns-then-c-list : goal.returns-then-c-list
returns-then-c-list c =
    let a = c.args in
    pair_put a.c a.from a.to a.list.now (omega (arith, c.if-c-list.true))

pub returns-else-c-list : goal.returns-else-c-list
returns-else-c-list c =
    let a = c.args in
    sym (pair_left a.c a.from a.to a.list.now (omega (arith, c.if-c-list.false)))
