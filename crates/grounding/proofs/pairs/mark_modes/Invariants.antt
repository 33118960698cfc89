use mathlib.Core.Path.{◌≡◌}
use Rattle.sections.specs.Sections.{fields_of, broken_of}
use Rattle.grounding.specs.RuleSteps.{Mark}
use Rattle.grounding.proofs.StepRows.{ModesTo}
use Rattle.grounding.proofs.pairs.mark_modes.Given as goal

abbrev pub invariant-loop-m : goal.invariant-loop-m
invariant-loop-m l =
    ModesTo (Mark l.t l.f l.number (fields_of l.t.words l.initial.work) l.last) l.pair l.modes l.yielded
    (broken_of l.t.words l.initial.work) (broken_of l.t.words l.work)
    × (fields_of l.t.words l.work ≡ fields_of l.t.words l.initial.work)
