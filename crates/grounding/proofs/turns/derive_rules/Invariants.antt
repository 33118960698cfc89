use mathlib.Core.Path.{◌≡◌}
use mathlib.Core.Bool.{true}
use mathlib.Core.List.{List}
use Prim.Native.Nat.{ℕ, ◌≤◌}
use lib.ListN.{length}
use Rattle.foundation.specs.BitMasks.{bit}
use Rattle.sections.specs.Sections.{active_of}
use Rattle.grounding.specs.RuleTurns.{prepared_in, fields_in, bits_in}
use Rattle.grounding.specs.RuleTurns.{Turns}
use Rattle.grounding.proofs.turns.derive_rules.Given as goal

abbrev pub invariant-loop-at : goal.invariant-loop-at
invariant-loop-at l =
    let p = prepared_in l.body l.outline l.coordinates l.need l.numbers l.f in
    ((end : ℕ) (w : List ℕ) → Turns p (active_of l.outline) (bits_in l.f l.initial.work) l.rest (fields_in l.f l.work) end w →
    Turns p (active_of l.outline) (bits_in l.f l.initial.work) l.needed (fields_in l.f l.initial.work) end w)
    × ((q : ℕ) → bit q l.rest ≡ true → bit q l.needed ≡ true)
    × (length (fields_in l.f l.work) ≡ length (fields_in l.f l.initial.work))
    × (l.last.rule ≤ 64)
    × (bits_in l.f l.work ≡ bits_in l.f l.initial.work)

abbrev pub decreases-loop-at : goal.decreases-loop-at
decreases-loop-at l = l.rest
