use native.Mathlib.Omega.{arith}
use Rattle.foundation.specs.BytesFacts.{le_add_at}
use Rattle.queries.proofs.prepared.word_at.Goals as goal

pub returns : goal.returns
returns c =
    let a = c.args in
    omega (arith, le_add_at 4 4 a.bytes.now a.at)
