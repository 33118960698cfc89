use mathlib.Core.Path.{sym, ap, subst}
use Rattle.model.specs.Answers.{Answer}
use Rattle.model.specs.Text.{order}
use Rattle.printing.specs.Print.{Short}
use Rattle.printing.proofs.ShortReplies.{request-short}
use Rattle.text.proofs.WritingFacts.{plain_turn, short-written}
use Rattle.text.proofs.text_order.Goals as goal

pub put_short-requires : goal.put_short-requires
put_short-requires c =
    let short : Short c.step.result =
    let a = c.args in
    subst (λ (x : Answer). Short x.reply) (sym c.step.ensures)
    (request-short a.base.now a.q) in
    let t = c in (t.requires.0, short)

pub returns : goal.returns
returns c =
    let short : Short c.step.result =
    let a = c.args in
    subst (λ (x : Answer). Short x.reply) (sym c.step.ensures)
    (request-short a.base.now a.q) in
    let p = c in
    let t = p in
    let d = t in
    let s = d.args.base.now in
    let q = d.args.q in
    short-written s (order q) d.args.out.now d.requires.0 (short)
    (ap (λ (a : Answer). plain_turn a.reply a.lent) (sym t.step.ensures)) p.put_short.ensures
