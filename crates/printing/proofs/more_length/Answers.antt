use native.Mathlib.Omega.{arith}
use mathlib.Core.Path.{◌≡◌}
use Rattle.printing.proofs.Lengths.{run_most, more_most}
use Rattle.printing.proofs.Pairs.{pair_at, more_last-length}
use borrow.Author.Rules.{rules}
use Rattle.printing.proofs.more_length.Goals as goal

pub overflow_add-k : goal.overflow_add-k
overflow_add-k c =
    let l = c in
    omega (arith, more_most l.loop-i.i l.args.list.now)

pub overflow_add-k-in-loop-i : goal.overflow_add-k-in-loop-i
overflow_add-k-in-loop-i c =
    let l = c in
    let list = l.args.list.now in
    omega (arith, more_most l.loop-i.i list, run_most (pair_at l.loop-i.i list))

pub loop-i-preserved : goal.loop-i-preserved
loop-i-preserved c =
    let l = c in
    (search rules, omega (arith, more_last-length l.loop-i.i l.args.list.now))

pub returns : goal.returns
returns c =
    let l = c.loop-i in
    let e : l.i ≡ c.args.n = omega arith in
    rw e at l.invariant.1
