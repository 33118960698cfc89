use mathlib.Core.Path.{ap, ◌∙◌}
use Prim.Native.Nat.{ℕ}
use Rattle.words.specs.Fields.{joined}
use Rattle.tables.proofs.GivingSteps.{start-below}
use Rattle.tables.proofs.join_in.Goals as goal

pub join_at-requires : goal.join_at-requires
join_at-requires c =
    let a = c.args in
    let p = c.requires in
    let n = c.number_in in
    (p.0.narrow, start-below a.f.width n.result a.f.fields _ n.ensures.1 p.0.fits, p.1)

pub returns : goal.returns
returns c =
    let a = c.args in
    let e = c.join_at.ensures in (
      (λ j. e.0 j ∙ ap (λ (i : ℕ). joined a.f.width a.words.now i a.v j)
          c.number_in.ensures.0),
      e.1,
      e.2,
    )
