use mathlib.Core.Path.{◌≡◌}
use mathlib.Core.Bool.{true}
use mathlib.Core.List.{List}
use Prim.Native.Nat.{ℕ}
use lib.ListN.{length}
use Rattle.foundation.specs.BitMasks.{bit}
use Rattle.sections.specs.Sections.{active_of, strata_of}
use Rattle.grounding.specs.RuleTurns.{prepared_in, fields_in, bits_in, Strata}
use Rattle.engine.proofs.window.derive_rest.Given as goal

abbrev pub invariant-loop-k : goal.invariant-loop-k
invariant-loop-k l =
    let p = prepared_in l.body l.outline l.coordinates l.need l.numbers l.f in
    let active = active_of l.outline in
    let strata = strata_of l.outline in
    let bits = bits_in l.f l.initial.work in
    ((w : List ℕ) → Strata p active bits strata l.todo l.k (fields_in l.f l.work) w →
    Strata p active bits strata l.rest 0 (fields_in l.f l.initial.work) w)
    × ((q : ℕ) → bit q l.todo ≡ true → bit q l.rest ≡ true)
    × (bits_in l.f l.work ≡ bits)
    × (length l.work ≡ length l.initial.work)
