use Rattle.relevance.proofs.KeptNumbers.{Chose}
use Rattle.direct.specs.Among.{is_for}
use Rattle.direct.proofs.intervals.choose_for.Given as goal

abbrev pub invariant-loop-i : goal.invariant-loop-i
invariant-loop-i l = Chose (is_for l.x) l.lines l.total l.initial.which l.which l.n l.i
