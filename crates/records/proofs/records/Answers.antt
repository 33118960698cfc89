use native.Mathlib.Omega.{arith}
use mathlib.Core.Path.{sym, ap, ◌∙◌}
use Rattle.records.specs.declared.Body.{Body}
use Rattle.records.specs.Records.{page_answer}
use Rattle.records.proofs.Paged.{unsound, no_body, of_body}
use Rattle.records.proofs.records.Goals as goal

pub returns-then-not-is_sound : goal.returns-then-not-is_sound
returns-then-not-is_sound c =
    let a = c.args in
    let e = sym c.is_sound.ensures ∙ c.if-not-is_sound.true in
    sym (unsound a.s.now a.source a.first a.list.now e)

pub returns-then-source-gt5 : goal.returns-then-source-gt5
returns-then-source-gt5 c =
    let a = c.args in
    let sound = sym c.is_sound.ensures ∙ c.if-not-is_sound.false in
    sym (no_body a.s.now a.source a.first a.list.now sound c.if-source-gt5.true)

pub returns : goal.returns
returns c =
    let a = c.args in
    let sound = sym c.is_sound.ensures ∙ c.if-not-is_sound.false in
    c.page.ensures
    ∙ ap (λ (b : Body). page_answer a.s.now b a.first a.list.now) c.body_of.ensures
    ∙ sym (of_body a.s.now a.source a.first a.list.now sound (omega arith))
