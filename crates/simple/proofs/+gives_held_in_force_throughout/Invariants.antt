-- What falls is the longest path left (Depth): `held` asks only rules that end such a path, and `gives` asks
-- about a right side that only rules before it can give or deny.
use Rattle.std.proofs.Common.{◌≡◌, ℕ, ◌+◌, ◌*◌, ◌≤◌, ◌<◌, true, length, drop}
use Rattle.foundation.specs.Lists.{anyb}
use Rattle.model.specs.Encoding.{decode}
use Rattle.simple.specs.Engine.{gives_in, wanted_in}
use Rattle.simple.proofs.Depth.{depth_for, longest_for, sight}
use Rattle.simple.proofs.+gives_held_in_force_throughout.Given as goal

-- ---- the measures

abbrev pub decreases-gives : goal.decreases-gives
decreases-gives l = 4 * depth_for (decode l.base.now.sound.bytes.now) l.p l.r

abbrev pub decreases-held : goal.decreases-held
decreases-held l = 4 * longest_for (decode l.base.now.sound.bytes.now) l.p + 1

abbrev pub decreases-in_force : goal.decreases-in_force
decreases-in_force l = 4 * sight (decode l.base.now.sound.bytes.now) l.p + 2

abbrev pub decreases-throughout : goal.decreases-throughout
decreases-throughout l = 4 * sight (decode l.base.now.sound.bytes.now) l.p + 3

-- ---- held: the answer for all rules is that for the rules from the i-th on

abbrev pub invariant-held-loop-i : goal.invariant-held-loop-i
invariant-held-loop-i l =
    let given = anyb (gives_in (decode l.base.sound.bytes.now) l.p l.t) in
    (l.i ≤ length l.rules) × (given l.rules ≡ given (drop l.i l.rules))

-- ---- throughout: at all instants before the one that is asked about it is as wanted

abbrev pub invariant-throughout-loop-u : goal.invariant-throughout-loop-u
invariant-throughout-loop-u l =
    (l.from ≤ l.u)
    × (l.u ≤ l.to + 1)
    × ((v : ℕ) → l.from ≤ v → v < l.u → wanted_in (decode l.base.sound.bytes.now) l.p l.wanted v ≡ true)
