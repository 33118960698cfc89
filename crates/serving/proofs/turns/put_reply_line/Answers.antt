use Rattle.serving.proofs.ReplyFacts.{reply_ended}
use Rattle.serving.proofs.turns.put_reply_line.Goals as goal

pub returns : goal.returns
returns c =
    let p = c in
    let w = p.print_reply-n.ensures in
    reply_ended p.print_reply-n.new.out p.print_reply-n.result p.requires.0
    w.0
    w.1 w.2
