use Rattle.std.proofs.Common.{sym, ◌∙◌}
use Rattle.report.proofs.SheetByRows.{report_unsound}
use Rattle.report.proofs.report.Goals as goal

pub returns-then-not-is_sound : goal.returns-then-not-is_sound
returns-then-not-is_sound c =
    let a = c.args in
    sym (report_unsound a.base.now a.object a.page.now (sym c.is_sound.ensures ∙ c.if-not-is_sound.true))
