use mathlib.Core.Path.{ap, ◌∙◌}
use Rattle.words.specs.Fields.{field_of}
use Rattle.tables.proofs.GivingSteps.{start-below}
use Rattle.tables.proofs.field_in.Goals as goal

pub field_at-requires : goal.field_at-requires
field_at-requires c =
    let a = c.args in
    let p = c.requires in
    let n = c.number_in in
    (p.narrow, start-below a.f.width n.result a.f.fields _ n.ensures.1 p.fits)

pub returns : goal.returns
returns c =
    let a = c.args in
    c.field_at.ensures ∙ ap (field_of a.f.width a.words.now) c.number_in.ensures.0
