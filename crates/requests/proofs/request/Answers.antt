use mathlib.Core.Path.{sym, ◌∙◌}
use Rattle.laws.specs.RequestFacts.{request_unsound}
use Rattle.requests.proofs.request.Goals as goal

pub returns-then-not-is_sound : goal.returns-then-not-is_sound
returns-then-not-is_sound c =
    sym (request_unsound c.args.s.now c.args.q (sym c.is_sound.ensures ∙ c.if-not-is_sound.true))

pub step-requires : goal.step-requires
step-requires c = sym c.is_sound.ensures ∙ c.if-not-is_sound.false
