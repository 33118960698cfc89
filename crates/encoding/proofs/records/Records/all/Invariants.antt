use Rattle.std.proofs.Common.{◌≡◌, ◌≤◌, Bool, length, drop}
use Rattle.foundation.specs.Lists.{allb}
use Rattle.encoding.proofs.records.Records.all.Given as goal

abbrev pub invariant-loop-i : goal.invariant-loop-i
invariant-loop-i g l =
    (l.i ≤ length l.self)
    × ((p : _ → Bool) → ((r : _) (b : Bool) → goal.F-post g l.test r b → b ≡ p r) → allb p l.self ≡ allb p (drop l.i l.self))
