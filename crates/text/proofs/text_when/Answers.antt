use native.Mathlib.Omega.{arith}
use mathlib.Core.Path.{◌≡◌, refl, sym, ap, subst}
use lib.ListN.{length}
use Rattle.model.specs.Answers.{Answer}
use Rattle.model.specs.Text.{asks_when, print_reply}
use Rattle.model.specs.Session.{runs_of, when_list, turn_text}
use Rattle.printing.specs.Print.{RunsFit}
use Rattle.printing.proofs.ShortReplies.{when-fits}
use Rattle.text.specs.Writing.{no_room_lem}
use Rattle.text.proofs.WritingFacts.{wrote_as, all_written}
use Rattle.text.proofs.text_when.Goals as goal

pub reply_length-requires : goal.reply_length-requires
reply_length-requires c =
    let fits : RunsFit c.when_sound-r.result c.when_sound-r.new.list =
    let a = c.args in
    subst (λ (a : Answer). RunsFit a.reply a.lent) (sym c.when_sound-r.ensures)
    (when-fits a.base.now a.x _) in
    fits

pub returns-then-out-reply_length : goal.returns-then-out-reply_length
unfolding when_list
returns-then-out-reply_length c =
    let said : (let a = c.args in print_reply c.when_sound-r.result (runs_of c.when_sound-r.result c.when_sound-r.new.list) ≡ turn_text a.base.now (asks_when a.x)) = ap (λ (a : Answer). print_reply a.reply (runs_of a.reply a.lent)) c.when_sound-r.ensures in
    let n = c in
    let w = n in
    let a = w.args in
    sym (no_room_lem a.base.now (asks_when a.x) a.out.now
    (omega (arith, ap length (said), n.reply_length.ensures, c.if-out-reply_length.true)))

pub put_line-requires : goal.put_line-requires
put_line-requires c =
    let fits : RunsFit c.when_sound-r.result c.when_sound-r.new.list =
    let a = c.args in
    subst (λ (a : Answer). RunsFit a.reply a.lent) (sym c.when_sound-r.ensures)
    (when-fits a.base.now a.x _) in
    let e = c in
    let w = e in
    (omega (arith, e.reply_length.ensures, e.if-out-reply_length.false), fits)

pub returns : goal.returns
unfolding when_list
returns c =
    let said : (let a = c.args in print_reply c.when_sound-r.result (runs_of c.when_sound-r.result c.when_sound-r.new.list) ≡ turn_text a.base.now (asks_when a.x)) = ap (λ (a : Answer). print_reply a.reply (runs_of a.reply a.lent)) c.when_sound-r.ensures in
    let p = c in
    let e = p in
    let w = e in
    let d = w in
    all_written d.args.base.now (asks_when d.args.x) d.args.out.now d.requires.0
    (omega (arith, ap length (said), e.reply_length.ensures, e.if-out-reply_length.false))
    (wrote_as (said) p.put_line.ensures)
    refl
