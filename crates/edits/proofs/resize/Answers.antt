use native.Mathlib.Omega.{arith}
use mathlib.Core.Path.{◌∙◌}
use Rattle.edits.proofs.EditedBytes.{lengthened, shortened}
use Rattle.edits.proofs.resize.Goals as goal

pub returns-then-old-new : goal.returns-then-old-new
returns-then-old-new c =
    let a = c.args in
    c.open_gap.ensures
    ∙ lengthened a.at a.old a.new a.s.now (omega arith) (omega arith)

pub returns-else-old-new : goal.returns-else-old-new
returns-else-old-new c =
    let a = c.args in
    c.close_gap.ensures
    ∙ shortened a.at a.old a.new a.s.now (omega arith) (omega arith)
