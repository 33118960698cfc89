use borrow.Author.Rules.{rules}
use mathlib.Core.Path.{ap, ◌∙◌}
use Rattle.direct.specs.Among.{is_for}
use Rattle.direct.proofs.Choosing.{for_sides}
use Rattle.direct.proofs.intervals.is_for_at.Goals as goal

pub returns : goal.returns
returns c =
    let b = c in
    let r = b.authorization_at-a in
    let s = b in
    let x = s.args.x in
    for_sides x r.result (search rules) s.requires.1 ∙ ap (is_for x) r.ensures
