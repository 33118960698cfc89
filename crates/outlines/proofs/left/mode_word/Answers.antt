use Rattle.foundation.specs.Tests.{eq_true, ne_false}
use Rattle.outlines.proofs.left.mode_word.Goals as goal

pub returns-then-code-eq255 : goal.returns-then-code-eq255
returns-then-code-eq255 c = rw (eq_true _ _ c.if-code-eq255.true)

pub returns : goal.returns
returns c = rw (ne_false _ _ c.if-code-eq255.false)
