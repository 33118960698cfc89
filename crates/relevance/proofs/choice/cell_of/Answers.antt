use Rattle.std.proofs.Common.{ℕ, eqb, sym, ap, ◌∙◌}
use Rattle.foundation.specs.Tests.{pick}
use Rattle.foundation.specs.CoordinateTables.{coordinate}
use Rattle.sections.proofs.SectionWrites.{in_part}
use Rattle.relevance.proofs.choice.cell_of.Goals as goal

pub returns : goal.returns
unfolding coordinate
returns c =
    let b = c in
    let a = b.args in
    let l = a.coordinates.now in
    let s = c.coordinate_of.ensures in
    let o = c.coordinate_of-2.ensures in
    let t = s.0 ∙ ap (λ (w : ℕ). pick (eqb w 0) (pick (eqb a.h.subject a.x.subject) 0 255) w)
    (sym (in_part 512 1024 l a.h.subject b.requires.0)) in
    let p = o.0 ∙ ap (λ (w : ℕ). pick (eqb w 0) (pick (eqb a.h.object a.x.object) 0 255) w)
    (sym (in_part 1536 130 l a.h.object b.requires.1)) in
    ((λ i. record { subject = t i; object = p i }), s.1, o.1)
