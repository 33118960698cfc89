use Rattle.relevance.proofs.KeptNumbers.{Forgot}
use Rattle.relevance.proofs.choice.forget.Given as goal

abbrev pub invariant-loop-i : goal.invariant-loop-i
invariant-loop-i l = Forgot l.lines l.n l.t l.initial.which l.which l.kept l.i
