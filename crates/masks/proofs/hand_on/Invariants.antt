use mathlib.Core.Path.{◌≡◌}
use mathlib.Core.Bool.{◌&&◌, ◌||◌}
use Prim.Native.Nat.{ℕ, ◌+◌, ◌<◌}
use lib.Dec.{eqb}
use lib.ListN.{get_or}
use Rattle.foundation.specs.BitMasks.{bit}
use Rattle.words.specs.SetBits.{among}
use Rattle.masks.proofs.hand_on.Given as goal

abbrev pub invariant-loop-i : goal.invariant-loop-i
invariant-loop-i l =
    ((w : ℕ) → w < l.from → get_or l.words w 0 ≡ get_or l.initial.words w 0)
    × ((j q : ℕ) → bit q (get_or l.words (l.from + j) 0)
    ≡ bit q (get_or l.initial.words (l.from + j) 0) || (eqb q l.r && among j l.yielded))
