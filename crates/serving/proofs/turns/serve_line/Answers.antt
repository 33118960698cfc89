use mathlib.Core.Path.{sym, ap, ◌∙◌}
use Rattle.reading.specs.ParsedLines.{asked_of}
use Rattle.serving.proofs.ReplyFacts.{line-turned}
use Rattle.serving.proofs.turns.serve_line.Goals as goal

pub returns-in-Order : goal.returns-in-Order
returns-in-Order c =
    line-turned c.args.s.now _ c.requires.0 (sym (ap asked_of c.in-Order.is) ∙ c.in-Some.ensures)
    c.serve_order.ensures.0 c.serve_order.ensures.1
