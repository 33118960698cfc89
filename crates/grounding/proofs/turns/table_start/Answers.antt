use native.Mathlib.Omega.{arith}
use Rattle.grounding.proofs.turns.table_start.Goals as goal

pub overflow_cast-result : goal.overflow_cast-result
overflow_cast-result c = omega (arith, c.requires.3 c.if-own.true)

pub returns-then-own : goal.returns-then-own
returns-then-own c = rw c.if-own.true

pub denials_start-requires : goal.denials_start-requires
denials_start-requires c = c.requires.1

pub returns-then-denied : goal.returns-then-denied
returns-then-denied c =
    rw (c.if-own.false, c.if-denied.true) c.denials_start.ensures
