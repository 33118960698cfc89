use Rattle.std.proofs.Common.{◌≡◌, ◌≤◌, ◌||◌, length, drop}
use Rattle.lookup.specs.RecordTests.{exists_in}
use Rattle.lookup.proofs.bodies.among_objects.Given as goal

abbrev pub invariant-loop-i : goal.invariant-loop-i
invariant-loop-i l =
    (l.i ≤ length l.objects)
    × (exists_in l.objects l.object ≡ l.found || exists_in (drop l.i l.objects) l.object)
