use mathlib.Core.Path.{sym, ◌∙◌}
use Rattle.answers.proofs.AnswersByRows.{when_unsound}
use Rattle.answers.proofs.when.Goals as goal

pub returns-then-not-is_sound : goal.returns-then-not-is_sound
returns-then-not-is_sound c =
    let a = c.args in
    let e = sym c.is_sound.ensures ∙ c.if-not-is_sound.true in
    sym (when_unsound a.s.now a.x a.list.now e)

pub when_sound-requires : goal.when_sound-requires
when_sound-requires c =
    sym c.is_sound.ensures ∙ c.if-not-is_sound.false
