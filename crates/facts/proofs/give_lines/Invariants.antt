use Rattle.relevance.specs.Chosen.{picked}
use Rattle.facts.specs.Facts.{setting_in, LineSteps}
use Rattle.facts.proofs.give_lines.Given as goal

abbrev pub invariant-loop-i : goal.invariant-loop-i
invariant-loop-i l =
    LineSteps (setting_in l.body l.w l.outline l.coordinates l.number l.marks) (picked l.records l.which l.i) l.initial.words l.words
