use mathlib.Core.Path.{sym, ◌∙◌}
use Rattle.requests.proofs.EffectReplies.{read-label, read_none}
use Rattle.requests.proofs.done.Goals as goal

pub returns-then-is_labelling : goal.returns-then-is_labelling
returns-then-is_labelling c =
    let i = c in
    let n = i in
    let d = n in
    read-label d.args.s.now d.args.q n.counts_of-c.result n.counts_of-c.ensures
    (sym i.is_labelling.ensures ∙ c.if-is_labelling.true) c.le16.result c.le16.ensures

pub returns : goal.returns
returns c =
    let i = c in
    let n = i in
    let d = n in
    read_none d.args.s.now d.args.q n.counts_of-c.result n.counts_of-c.ensures
    (sym i.is_labelling.ensures ∙ c.if-is_labelling.false)
