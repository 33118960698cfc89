use Prim.Native.Nat.{◌≤◌}
use Rattle.foundation.specs.BitMasks.{MaskBuilt}
use Rattle.model.specs.Encoding.{rule_of}
use Rattle.outlines.specs.Feed.{is_choosy}
use Rattle.outlines.proofs.feed.choosy_of.Given as goal

abbrev pub invariant-loop-i : goal.invariant-loop-i
invariant-loop-i l =
    (l.i ≤ l.n) × MaskBuilt 28 rule_of is_choosy l.n l.body l.m l.i
