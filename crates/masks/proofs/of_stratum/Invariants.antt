use lib.Dec.{eqb}
use lib.ListN.{get_or}
use Rattle.words.proofs.SetBitLoops.{Collected}
use Rattle.masks.proofs.of_stratum.Given as goal

abbrev pub invariant-loop-r : goal.invariant-loop-r
invariant-loop-r l = Collected (λ i. eqb (get_or l.strata i 0) l.k) l.yielded l.m
