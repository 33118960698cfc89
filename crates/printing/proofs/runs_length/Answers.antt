use native.Mathlib.Omega.{arith}
use mathlib.Core.Path.{sym, ap}
use Prim.Native.Nat.{ℕ}
use lib.ListN.{length}
use Rattle.model.specs.Text.{print_runs}
use Rattle.model.specs.Session.{pairs_of}
use Rattle.printing.proofs.Lengths.{runs_length}
use Rattle.printing.proofs.runs_length.Goals as goal

pub returns-then-n-eq0 : goal.returns-then-n-eq0
returns-then-n-eq0 c =
    let a = c.args in
    ap (λ (j : ℕ). length (print_runs (pairs_of j a.list.now))) (sym c.if-n-eq0.true)

pub overflow_sub-result : goal.overflow_sub-result
overflow_sub-result c =
    let a = c.args in omega (arith, runs_length a.n a.list.now (omega arith))

pub returns : goal.returns
returns c =
    let a = c.args in omega (arith, runs_length a.n a.list.now (omega arith))
