use native.Mathlib.Omega.{arith}
use Rattle.foundation.specs.Tests.{eq_true, ne_false}
use Rattle.outlines.proofs.feed.meet_object.Goals as goal

pub returns-then-code-eq255 : goal.returns-then-code-eq255
returns-then-code-eq255 c = rw (eq_true _ _ c.if-code-eq255.true)

pub offset_bounds-left-code : goal.offset_bounds-left-code
offset_bounds-left-code c = omega (arith, c.requires.0 c.if-code-eq255.false)

pub bounds-left-code : goal.bounds-left-code
bounds-left-code c =
    let b = c in
    omega (arith, b.requires.1, b.requires.0 c.if-code-eq255.false)

pub returns : goal.returns
returns c = rw (ne_false _ _ c.if-code-eq255.false)
