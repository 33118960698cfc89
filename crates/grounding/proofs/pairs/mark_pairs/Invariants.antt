use mathlib.Core.Path.{◌≡◌}
use Prim.Native.Nat.{◌≤◌}
use Rattle.sections.specs.Sections.{fields_of, broken_of}
use Rattle.grounding.specs.RuleSteps.{Mark}
use Rattle.grounding.proofs.StepRows.{PairsTo}
use Rattle.grounding.proofs.pairs.mark_pairs.Given as goal

abbrev pub invariant-loop-n : goal.invariant-loop-n
invariant-loop-n l =
    (l.fn.range.from ≤ l.n)
    × PairsTo l.t l.f l.left l.need l.listed (Mark l.t l.f l.number (fields_of l.t.words l.initial.work) l.last) l.fn.range.from
    l.fn.range.to l.n (broken_of l.t.words l.initial.work) (broken_of l.t.words l.work)
    × (fields_of l.t.words l.work ≡ fields_of l.t.words l.initial.work)
