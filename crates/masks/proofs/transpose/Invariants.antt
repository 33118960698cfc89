use borrow.Author.Rules.{rules}
use mathlib.Core.Path.{◌≡◌}
use mathlib.Core.Bool.{Bool, ◌&&◌}
use mathlib.Core.List.{List}
use Prim.Native.Nat.{ℕ, ◌<◌}
use lib.Bits.{bit_and}
use lib.ListN.{get_or}
use Rattle.foundation.specs.BitMasks.{bit}
use Rattle.words.specs.SetBits.{among}
use Rattle.masks.proofs.transpose.Given as goal

-- rule r, which is of the mask, precedes rule q
abbrev pub precedes : List ℕ → ℕ → ℕ → ℕ → Bool
precedes feed rules r q = bit r (bit_and (get_or feed q 0) rules)

abbrev pub invariant-loop-q : goal.invariant-loop-q
invariant-loop-q l =
    (r p : ℕ) → r < 64 → bit p (get_or l.fed r 0) ≡ among p l.yielded && precedes l.feed l.rules r p
