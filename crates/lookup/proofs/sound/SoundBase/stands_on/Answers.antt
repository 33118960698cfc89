use Rattle.foundation.specs.Tests.{eq_true, ne_false}
use Rattle.lookup.proofs.sound.SoundBase.stands_on.Goals as goal

pub returns-then-q-eq0 : goal.returns-then-q-eq0
returns-then-q-eq0 c = rw (eq_true _ _ c.if-q-eq0.true) c.controls.ensures

pub returns : goal.returns
returns c = rw (ne_false _ _ c.if-q-eq0.false)
