use mathlib.Core.Path.{sym, ap, subst}
use mathlib.Core.List.{[]}
use Rattle.model.specs.declared.Reply.{Reply}
use Rattle.model.specs.Text.{print_reply}
use Rattle.printing.specs.Print.{Short}
use Rattle.printing.proofs.ShortReplies.{may-short}
use Rattle.serving.proofs.ReplyFacts.{printed_line_as}
use Rattle.serving.proofs.turns.serve_may.Goals as goal

pub put_short_line-requires : goal.put_short_line-requires
put_short_line-requires c =
    let d = c in
    (d.requires.1, subst Short (sym c.may_sound.ensures) (may-short d.args.s.now d.args.q))

pub returns : goal.returns
returns c =
    let p = c in
    printed_line_as (ap (λ (r : Reply). print_reply r []) p.may_sound.ensures)
    p.put_short_line.ensures
