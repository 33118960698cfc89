use native.Mathlib.Omega.{arith}
use Rattle.model.specs.TextFacts.{decimal-most}
use Rattle.printing.proofs.reply_length.Goals as goal

pub overflow_add-result : goal.overflow_add-result
overflow_add-result c = omega (arith, decimal-most c.in-Done.label)

pub overflow_add-result-in-Done : goal.overflow_add-result-in-Done
overflow_add-result-in-Done c =
    omega (arith, decimal-most c.in-Done.label, decimal-most c.in-Done.count)

pub overflow_add-result-in-Refused : goal.overflow_add-result-in-Refused
overflow_add-result-in-Refused c = omega (arith, decimal-most c.in-Refused.k)
