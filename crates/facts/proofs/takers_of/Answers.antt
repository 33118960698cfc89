use Rattle.std.proofs.Common.{rules}
use Rattle.facts.specs.Facts.{fits_rule}
use Rattle.facts.proofs.LineGiving.{takers_same}
use Rattle.facts.proofs.takers_of.Goals as goal

pub returns : goal.returns
returns c =
    let a = c.args in
    let t = fits_rule a.body.now a.h in
    let bits = c.those.ensures t (λ q b e p. search rules) in
    (takers_same a.body.now a.rules a.h c.those.result c.requires bits, bits)
