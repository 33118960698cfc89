use Rattle.std.proofs.Common.{◌≡◌, ◌-◌, ◌≤◌, Bool, drop}
use Rattle.model.specs.Soundness.{chained}
use Rattle.encoding.proofs.records.Records.is_chained.Given as goal

abbrev pub invariant-loop-i : goal.invariant-loop-i
invariant-loop-i g l =
    (1 ≤ l.i)
    × ((p : _ → _ → Bool) → ((q r : _) (b : Bool) → goal.F-post g l.test q r b → b ≡ p q r) → chained p l.self ≡ chained p (drop (l.i - 1) l.self))
