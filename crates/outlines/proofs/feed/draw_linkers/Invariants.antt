use mathlib.Core.Path.{◌≡◌}
use Prim.Native.Nat.{ℕ, ◌≤◌}
use lib.Bits.{bit_or}
use lib.Dec.{ltb}
use lib.ListN.{length, get_or}
use Rattle.foundation.specs.Tests.{pick}
use Rattle.sections.specs.Sections.{left_of, feed_of, rights_of, sides_of}
use Rattle.outlines.specs.Feed.{linkers_word}
use Rattle.outlines.proofs.feed.draw_linkers.Given as goal

abbrev pub invariant-loop-i : goal.invariant-loop-i
invariant-loop-i l =
    (l.i ≤ l.n) × ((w : ℕ) → get_or (feed_of l.outline) w 0
    ≡ pick (ltb w l.i) (bit_or (get_or (feed_of l.initial.outline) w 0)
    (linkers_word (left_of l.initial.outline) (rights_of l.coordinates) (sides_of l.coordinates) w))
    (get_or (feed_of l.initial.outline) w 0))
    × (left_of l.outline ≡ left_of l.initial.outline) × (length l.outline ≡ length l.initial.outline)
