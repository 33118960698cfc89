use borrow.Author.Rules.{rules}
use mathlib.Core.Path.{◌≡◌}
use mathlib.Core.Bool.{true}
use mathlib.Core.List.{List}
use Prim.Native.Nat.{ℕ, ◌-◌, ◌≤◌, ◌<◌}
use lib.ListN.{length}
use Rattle.foundation.specs.BitMasks.{bit}
use Rattle.words.proofs.SetBitLoops.{AtPlace}
use Rattle.sections.specs.Sections.{active_of}
use Rattle.grounding.specs.RuleTurns.{prepared_in, fields_in, bits_in}
use Rattle.grounding.specs.RuleTurns.{Marked}
use Rattle.grounding.proofs.turns.mark_broken.Given as goal

abbrev pub invariant-loop-r : goal.invariant-loop-r
invariant-loop-r l =
    let f = l.e.frame in
    let p = prepared_in l.body l.outline l.coordinates l.need l.numbers f in
    AtPlace l.rules l.yielded (λ n. (w : List ℕ) →
    Marked p (active_of l.outline) (fields_in f l.initial.work) l.e.last l.e.mark l.rules n (bits_in f l.work) w →
    Marked p (active_of l.outline) (fields_in f l.initial.work) l.e.last l.e.mark l.rules 0 (bits_in f l.initial.work) w)
    × (length (bits_in f l.work) ≡ length (bits_in f l.initial.work))
    × (fields_in f l.work ≡ fields_in f l.initial.work)
