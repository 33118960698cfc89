use Rattle.masks.specs.RuleMasks.{Needed}
use Rattle.masks.proofs.needed_rules.Given as goal

abbrev pub invariant-loop-n : goal.invariant-loop-n
invariant-loop-n l = Needed l.left l.need l.codes l.subjects l.n l.m
