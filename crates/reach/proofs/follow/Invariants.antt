use mathlib.Core.Path.{◌≡◌}
use mathlib.Core.Bool.{Bool, true}
use Prim.Native.Nat.{ℕ, ◌<◌}
use Rattle.foundation.specs.BitMasks.{bit}
use Rattle.reach.specs.Net.{right_pair}
use Rattle.reach.specs.Reach.{Grown, KeepsWithin}
use Rattle.reach.proofs.Growth.{RightsNeeded}
use Rattle.reach.proofs.follow.Given as goal

abbrev pub invariant-loop-r : goal.invariant-loop-r
invariant-loop-r l =
    Grown l.initial.need l.initial.todo l.need l.todo
    × RightsNeeded l.net.right.now l.net.subjects l.at.object l.at.subject l.at.mode l.yielded l.need
    × ((P : ℕ → Bool) → ((q : ℕ) → q < 64 → bit q l.rules ≡ true →
    P (right_pair l.net.right.now l.net.subjects q l.at.object l.at.subject) ≡ true) → KeepsWithin P l.initial.need l.initial.todo l.need
    l.todo)
