use Rattle.relevance.specs.Distance.{reached}
use Rattle.words.proofs.SetBitLoops.{AtPlace}
use Rattle.relevance.proofs.Nearness.{MarksLeft}
use Rattle.relevance.proofs.distance.nearest_rule.Given as goal

abbrev pub invariant-loop-r : goal.invariant-loop-r
invariant-loop-r l =
    AtPlace l.needed l.yielded (λ r. MarksLeft l.body l.k l.needed l.ends l.t (reached l.t l.best) r)
