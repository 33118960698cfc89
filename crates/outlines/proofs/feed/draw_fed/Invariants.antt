use mathlib.Core.Path.{◌≡◌}
use mathlib.Core.Bool.{◌&&◌}
use Prim.Native.Nat.{ℕ, ◌+◌, ◌<◌}
use lib.ListN.{get_or}
use Rattle.foundation.specs.BitMasks.{bit}
use Rattle.words.specs.SetBits.{among}
use Rattle.outlines.proofs.feed.draw_fed.Given as goal

abbrev pub invariant-loop-c : goal.invariant-loop-c
invariant-loop-c l =
    ((w : ℕ) → w < 64 → get_or l.feed w 0 ≡ get_or l.initial.feed w 0)
    × ((i r : ℕ) → i < 64 → bit r (get_or l.feed (64 + i) 0)
    ≡ among r l.yielded && bit i (get_or l.initial.feed r 0))
