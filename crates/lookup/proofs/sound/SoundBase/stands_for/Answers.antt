use Rattle.model.proofs.SideFacts.{stands_eq}
use Rattle.lookup.proofs.sound.SoundBase.stands_for.Goals as goal

pub returns-then-l-x : goal.returns-then-l-x
returns-then-l-x c = rw (stands_eq _ _ _, c.if-l-x.true) c.stands_on.ensures

pub returns : goal.returns
returns c = rw (stands_eq _ _ _, c.if-l-x.false)
