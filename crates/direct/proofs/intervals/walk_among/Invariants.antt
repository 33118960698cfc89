use mathlib.Core.Path.{◌≡◌}
use Prim.Native.Nat.{◌-◌, ◌≤◌}
use lib.ListN.{length}
use Rattle.encoding.specs.Format.{rules_in}
use Rattle.relevance.specs.Chosen.{picked, selected}
use Rattle.relevance.specs.Ahead.{Standing}
use Rattle.scan.specs.Runs.{ScannedTo}
use Rattle.direct.specs.Among.{held_among}
use Rattle.direct.proofs.intervals.walk_among.Given as goal

abbrev pub invariant-loop-t : goal.invariant-loop-t
invariant-loop-t l =
    (l.t ≤ 4294967296) × ScannedTo (held_among (picked l.lines l.which l.n)) 4294967295 l.initial.list l.t l.w l.list
    × (length l.list ≡ length l.initial.list)
    × Standing (picked l.lines l.which l.n) (selected 0 (rules_in 0 l.lines)) l.t l.near

abbrev pub decreases-loop-t : goal.decreases-loop-t
decreases-loop-t l = 4294967296 - l.t
