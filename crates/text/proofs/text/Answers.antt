use native.Mathlib.Omega.{arith}
use mathlib.Core.Path.{◌≡◌, refl, sym, ap, ◌∙◌}
use mathlib.Core.Bool.{true}
use Prim.Native.Nat.{◌≤◌}
use lib.ListN.{length}
use Rattle.model.specs.Soundness.{sound_bytes}
use Rattle.model.specs.Text.{order, asks_may, asks_when, unreadable, read_line}
use Rattle.model.specs.Session.{shortest_buffer}
use Rattle.reading.specs.ParsedLines.{line_of, asked_of}
use Rattle.text.specs.Writing.{too_short_lem}
use Rattle.text.proofs.WritingFacts.{short-written, unsound_turn, answers-line}
use Rattle.text.proofs.text.Goals as goal

pub returns-then-out-lt16 : goal.returns-then-out-lt16
returns-then-out-lt16 c =
    let a = c.args in
    let l = read_line a.line.now in
    answers-line a.base.now a.line.now a.out.now l refl
    (sym (too_short_lem a.base.now l a.out.now c.if-out-lt16.true))

pub returns-in_default : goal.returns-in_default
returns-in_default c =
    let a = c.args in
    answers-line a.base.now a.line.now a.out.now unreadable (sym (ap line_of c.in_default.is) ∙ c.read_line.ensures)
    (short-written a.base.now unreadable a.out.now (omega arith) (omega arith) refl c.put_short.ensures)

pub returns-then-not-is_sound : goal.returns-then-not-is_sound
returns-then-not-is_sound c =
    let a = c.args in
    let q = c.in-Some.a in
    answers-line a.base.now a.line.now a.out.now (asked_of q) (sym (ap line_of c.in-Some.is) ∙ c.read_line.ensures)
    (short-written a.base.now (asked_of q) a.out.now (omega arith) (omega arith)
    (unsound_turn a.base.now q (sym c.is_sound.ensures ∙ c.if-not-is_sound.true))
    c.put_short-then-not-is_sound.ensures)

pub returns-in-Order : goal.returns-in-Order
returns-in-Order c =
    let a = c.args in
    answers-line a.base.now a.line.now a.out.now (order c.in-Order.q)
    (sym (ap asked_of c.in-Order.is) ∙ sym (ap line_of c.in-Some.is) ∙ c.read_line.ensures) c.text_order.ensures

pub returns-in-May : goal.returns-in-May
returns-in-May c =
    let a = c.args in
    answers-line a.base.now a.line.now a.out.now (asks_may c.in-May.q)
    (sym (ap asked_of c.in-May.is) ∙ sym (ap line_of c.in-Some.is) ∙ c.read_line.ensures) c.text_may.ensures

pub returns-in-When : goal.returns-in-When
returns-in-When c =
    let a = c.args in
    answers-line a.base.now a.line.now a.out.now (asks_when c.in-When.x)
    (sym (ap asked_of c.in-When.is) ∙ sym (ap line_of c.in-Some.is) ∙ c.read_line.ensures) c.text_when.ensures

pub text_order-requires : goal.text_order-requires
text_order-requires c = (omega arith, sym c.is_sound.ensures ∙ c.if-not-is_sound.false)
