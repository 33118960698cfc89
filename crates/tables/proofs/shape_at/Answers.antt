use mathlib.Core.Path.{sym, ap, ◌∙◌}
use mathlib.Core.Bool.{Bool}
use Rattle.tables.specs.TableLayout.{region_at}
use Rattle.tables.specs.TableGiving.{shapes_by}
use Rattle.tables.proofs.WholeCodes.{whole_at}
use Rattle.tables.proofs.shape_at.Goals as goal

pub returns-then-f : goal.returns-then-f
returns-then-f c =
    let s = c in
    let a = s.args in
    c.all_places.ensures ∙ sym (whole_at a.i s.requires.0)
    ∙ ap (λ (b : Bool). region_at (shapes_by b a.right.now) a.i) (sym c.if-f.true)

pub returns : goal.returns
returns c =
    let a = c.args in
    c.region_at.ensures
    ∙ ap (λ (b : Bool). region_at (shapes_by b a.right.now) a.i) (sym c.if-f.false)
