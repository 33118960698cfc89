use mathlib.Core.Path.{◌≡◌, sym, ◌∙◌}
use Rattle.queries.proofs.QuestionBodies.{held-alone}
use Rattle.queries.proofs.asked.AskedBase.held_alone.Goals as goal

pub returns : goal.returns
returns c = λ base yes b e.
    let same : yes ≡ c.holds_directly.result = cc in
    held-alone b c.args.x c.args.t (sym (c.stands_some.ensures base b) ∙ c.if-stands_some.false)
    (same ∙ c.holds_directly.ensures)
