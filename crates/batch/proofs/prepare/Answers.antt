use native.Mathlib.Omega.{arith}
use mathlib.Core.Path.{refl}
use Rattle.queries.proofs.AskingFacts.{zeros-blank}
use Rattle.batch.proofs.prepare.Goals as goal

pub prepare-requires : goal.prepare-requires
prepare-requires c =
    let d = c in (d.requires c.if-questions-gt0.true, refl {a = 492}, zeros-blank 492)

pub returns-else-questions-gt0 : goal.returns-else-questions-gt0
returns-else-questions-gt0 c = λ h. absurd (omega (arith, h, c.if-questions-gt0.false))
