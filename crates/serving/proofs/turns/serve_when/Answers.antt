use mathlib.Core.Path.{sym, ap, subst}
use Rattle.model.specs.Answers.{Answer}
use Rattle.model.specs.Text.{print_reply}
use Rattle.model.specs.Session.{runs_of, when_list}
use Rattle.printing.specs.Print.{RunsFit}
use Rattle.printing.proofs.ShortReplies.{when-fits}
use Rattle.serving.proofs.ReplyFacts.{printed_line_as}
use Rattle.serving.proofs.turns.serve_when.Goals as goal

pub put_reply_line-requires : goal.put_reply_line-requires
put_reply_line-requires c =
    let w = c in
    let d = w in (
      d.requires.1,
      subst (λ (a : Answer). RunsFit a.reply a.lent) (sym w.when_sound-r.ensures)
          (when-fits d.args.s.now d.args.x _),
    )

pub returns : goal.returns
unfolding when_list
returns c =
    let p = c in
    let w = p in
    printed_line_as (ap (λ (a : Answer). print_reply a.reply (runs_of a.reply a.lent))
    w.when_sound-r.ensures)
    p.put_reply_line.ensures
