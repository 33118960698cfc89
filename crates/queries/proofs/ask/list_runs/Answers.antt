use mathlib.Core.Path.{sym, ◌∙◌}
use mathlib.Core.List.{[]}
use Rattle.model.specs.Effects.{with_rules}
use Rattle.model.specs.Encoding.{decode}
use Rattle.queries.proofs.QuestionBodies.{ruleless_listing}
use Rattle.queries.proofs.ask.list_runs.Goals as goal

pub returns-then-stands_some : goal.returns-then-stands_some
returns-then-stands_some c = c.runs_if_room.ensures (decode c.args.s.now) c.new-base.ensures.3

pub runs_if_room-requires-2 : goal.runs_if_room-requires-2
runs_if_room-requires-2 c =
    let base = decode c.args.s.now in
    (c.requires.1, (with_rules [] base, c.without_rules.ensures base c.new-base.ensures.3))

pub returns : goal.returns
returns c =
    let base = decode c.args.s.now in
    let b = c.new-base.ensures.3 in
    ruleless_listing base c.args.x (sym (c.stands_some.ensures base b) ∙ c.if-stands_some.false)
    (c.runs_if_room-2.ensures (with_rules [] base) (c.without_rules.ensures base b))
