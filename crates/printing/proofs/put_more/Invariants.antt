use Prim.Native.Nat.{◌-◌, ◌≤◌}
use Rattle.model.specs.Text.{print_more}
use Rattle.model.specs.Session.{pairs_of}
use Rattle.printing.specs.Print.{Printed}
use Rattle.printing.proofs.put_more.Given as goal

abbrev pub invariant-loop-i : goal.invariant-loop-i
invariant-loop-i l =
    (l.i ≤ l.n) × Printed l.at (print_more (pairs_of l.i l.list)) l.initial.out l.out l.end

abbrev pub decreases-loop-i : goal.decreases-loop-i
decreases-loop-i l = l.n - l.i
