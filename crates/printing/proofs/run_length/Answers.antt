use native.Mathlib.Omega.{arith}
use Rattle.foundation.specs.Intervals.{interval}
use Rattle.model.specs.TextFacts.{instant-most}
use Rattle.printing.proofs.Lengths.{run_length}
use Rattle.printing.proofs.run_length.Goals as goal

pub overflow_add-result : goal.overflow_add-result
overflow_add-result c = omega (arith, instant-most c.args.start)

pub overflow_add-result-2 : goal.overflow_add-result-2
overflow_add-result-2 c =
    let a = c.args in omega (arith, instant-most a.start, instant-most a.end)

pub returns : goal.returns
returns c = let a = c.args in omega (arith, run_length (interval a.start a.end))
