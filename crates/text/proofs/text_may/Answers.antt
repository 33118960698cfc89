use mathlib.Core.Path.{sym, ap, subst}
use Rattle.model.specs.declared.Reply.{Reply}
use Rattle.model.specs.Text.{asks_may}
use Rattle.printing.specs.Print.{Short}
use Rattle.printing.proofs.ShortReplies.{may-short}
use Rattle.text.proofs.WritingFacts.{plain_turn, short-written}
use Rattle.text.proofs.text_may.Goals as goal

pub put_short-requires : goal.put_short-requires
put_short-requires c =
    let short : Short c.may_sound.result =
    let a = c.args in
    subst Short (sym c.may_sound.ensures) (may-short a.base.now a.q) in
    (c.requires.0, short)

pub returns : goal.returns
returns c =
    let short : Short c.may_sound.result =
    let a = c.args in
    subst Short (sym c.may_sound.ensures) (may-short a.base.now a.q) in
    let p = c in
    let t = p in
    let d = t in
    let s = d.args.base.now in
    let q = d.args.q in
    short-written s (asks_may q) d.args.out.now d.requires.0 (short)
    (ap (λ (r : Reply). plain_turn r s) (sym t.may_sound.ensures)) p.put_short.ensures
