use mathlib.Core.Path.{ap}
use Rattle.model.specs.Text.{print_reply}
use Rattle.printing.proofs.ShortFacts.{short-fits, short_runs}
use Rattle.serving.proofs.ReplyFacts.{printed_line_as}
use Rattle.serving.proofs.turns.put_short_line.Goals as goal

pub put_reply_line-requires : goal.put_reply_line-requires
put_reply_line-requires c =
    let d = c in (d.requires.0, short-fits d.args.r _ d.requires.1)

pub returns : goal.returns
returns c =
    let p = c in
    let d = p in
    printed_line_as (ap (print_reply d.args.r) (short_runs d.args.r _ d.requires.1))
    p.put_reply_line.ensures
