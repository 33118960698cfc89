use borrow.Author.Rules.{rules}
use mathlib.Core.Path.{◌≡◌}
use mathlib.Core.Bool.{true, ◌&&◌}
use mathlib.Core.List.{List}
use Prim.Native.Nat.{ℕ, ◌<◌}
use lib.ListN.{length, get_or}
use Rattle.foundation.specs.BitMasks.{bit}
use Rattle.sections.specs.Sections.{feed_of, active_of}
use Rattle.grounding.specs.RuleTurns.{prepared_in, fields_in, bits_in}
use Rattle.grounding.specs.RuleTurns.{Rounds}
use Rattle.grounding.proofs.TurnRounds.{measure}
use Rattle.grounding.proofs.turns.close.Given as goal

abbrev pub invariant-loop-dirty : goal.invariant-loop-dirty
invariant-loop-dirty l =
    let p = prepared_in l.body l.outline l.coordinates l.need l.numbers l.f in
    ((w : List ℕ) → Rounds p (active_of l.outline) (bits_in l.f l.initial.work) l.rules l.dirty (fields_in l.f l.work) w →
    Rounds p (active_of l.outline) (bits_in l.f l.initial.work) l.rules l.rules (fields_in l.f l.initial.work) w)
    × ((q : ℕ) → bit q l.dirty ≡ true → bit q l.rules ≡ true)
    × (length (fields_in l.f l.work) ≡ length (fields_in l.f l.initial.work))
    × (l.at.rule < 64)
    × ((r q : ℕ) → r < 64 → bit q (get_or l.fed r 0)
    ≡ bit q l.rules && (bit r (get_or (feed_of l.outline) q 0) && bit r l.rules))
    × (bits_in l.f l.work ≡ bits_in l.f l.initial.work)

abbrev pub decreases-loop-dirty : goal.decreases-loop-dirty
decreases-loop-dirty l = measure (fields_in l.f l.work) l.dirty
