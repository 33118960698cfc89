use Rattle.encoding.specs.Format.{rules_in}
use Rattle.relevance.specs.Ahead.{Standing}
use Rattle.relevance.specs.Chosen.{marks_for, picked, selected}
use Rattle.relevance.proofs.Growing.{MarksGrown}
use Rattle.relevance.proofs.filling.fill.Given as goal

abbrev pub invariant-loop-count : goal.invariant-loop-count
invariant-loop-count l =
    MarksGrown (marks_for l.lines l.which l.body l.c) l.from l.to l.width l.marks l.count l.t
    × Standing (picked l.lines l.which l.c.authorizations) (selected l.c.needed (rules_in l.c.rules l.body)) l.t
    l.near
