use mathlib.Core.Path.{sym, ◌∙◌}
use Rattle.answers.proofs.AnswersByRows.{may_unsound}
use Rattle.answers.proofs.may.Goals as goal

pub returns-then-not-is_sound : goal.returns-then-not-is_sound
returns-then-not-is_sound c =
    let a = c.args in
    sym (may_unsound a.s.now a.q (sym c.is_sound.ensures ∙ c.if-not-is_sound.true))

pub may_sound-requires : goal.may_sound-requires
may_sound-requires c = sym c.is_sound.ensures ∙ c.if-not-is_sound.false
