use mathlib.Core.Path.{◌≡◌}
use Rattle.words.specs.Sums.{SumGrown}
use Rattle.sections.specs.Sections.{fields_of, broken_of}
use Rattle.grounding.specs.RuleSteps.{Step}
use Rattle.grounding.proofs.StepRows.{ModesTo}
use Rattle.grounding.proofs.pairs.derive_modes.Given as goal

abbrev pub invariant-loop-m : goal.invariant-loop-m
invariant-loop-m l =
    ModesTo (Step l.t l.f l.number (broken_of l.t.words l.initial.work) l.right l.first) l.pair l.modes l.yielded
    (fields_of l.t.words l.initial.work) (fields_of l.t.words l.work)
    × SumGrown l.fresh (fields_of l.t.words l.initial.work) (fields_of l.t.words l.work)
    × (broken_of l.t.words l.work ≡ broken_of l.t.words l.initial.work)
