use mathlib.Core.Path.{sym, ap, subst}
use mathlib.Core.List.{[]}
use Rattle.model.specs.Answers.{Answer}
use Rattle.model.specs.Text.{print_reply}
use Rattle.printing.specs.Print.{Short}
use Rattle.printing.proofs.ShortReplies.{request-short}
use Rattle.serving.proofs.ReplyFacts.{printed_line_as}
use Rattle.serving.proofs.turns.serve_order.Goals as goal

pub put_short_line-requires : goal.put_short_line-requires
put_short_line-requires c =
    let t = c in
    let d = t in (
      d.requires.1,
      subst (λ (x : Answer). Short x.reply) (sym t.step.ensures)
          (request-short d.args.s.now d.args.q),
    )

pub returns : goal.returns
returns c =
    let p = c in
    let t = p in (
      printed_line_as (ap (λ (x : Answer). print_reply x.reply []) t.step.ensures)
          p.put_short_line.ensures,
      ap (λ (x : Answer). x.lent) t.step.ensures,
    )
