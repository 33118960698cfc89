use Rattle.std.proofs.Common.{sym, ◌∙◌}
use Rattle.report.proofs.SheetByRows.{report_range, report_unknown, report_filled}
use Rattle.report.proofs.sheet.report_sound.Goals as goal

pub returns-then-not-object_in : goal.returns-then-not-object_in
returns-then-not-object_in c =
    let a = c.args in
    let b = a.base.now in
    sym (report_range b.bytes.now a.object a.page.now b.sound (sym c.object_in.ensures ∙ c.if-not-object_in.true))

pub returns-then-not-exists : goal.returns-then-not-exists
returns-then-not-exists c =
    let a = c.args in
    let b = a.base.now in
    sym (report_unknown b.bytes.now a.object a.page.now b.sound (sym c.object_in.ensures ∙ c.if-not-object_in.false)
    (sym c.exists.ensures ∙ c.if-not-exists.true))

pub returns : goal.returns
returns c =
    let a = c.args in
    let b = a.base.now in
    c.fill_page.ensures
    ∙ sym (report_filled b.bytes.now a.object a.page.now b.sound (sym c.object_in.ensures ∙ c.if-not-object_in.false)
    (sym c.exists.ensures ∙ c.if-not-exists.false))
