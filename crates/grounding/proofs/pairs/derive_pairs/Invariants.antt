use mathlib.Core.Path.{◌≡◌}
use Prim.Native.Nat.{◌≤◌}
use Rattle.words.specs.Sums.{SumGrown}
use Rattle.sections.specs.Sections.{left_of, first_of, rights_of, fields_of, broken_of}
use Rattle.grounding.specs.RuleSteps.{Step}
use Rattle.grounding.proofs.StepRows.{PairsTo}
use Rattle.grounding.proofs.pairs.derive_pairs.Given as goal

abbrev pub invariant-loop-n : goal.invariant-loop-n
invariant-loop-n l =
    (l.fn.range.from ≤ l.n)
    × PairsTo l.t l.f (left_of l.outline) l.need l.listed
    (Step l.t l.f l.number (broken_of l.t.words l.initial.work) (rights_of l.coordinates) (first_of l.outline)) l.fn.range.from
    l.fn.range.to l.n (fields_of l.t.words l.initial.work) (fields_of l.t.words l.work)
    × SumGrown l.fresh (fields_of l.t.words l.initial.work) (fields_of l.t.words l.work)
    × (broken_of l.t.words l.work ≡ broken_of l.t.words l.initial.work)
