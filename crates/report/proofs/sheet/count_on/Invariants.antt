use Rattle.std.proofs.Common.{◌≡◌, ℕ, List, ◌+◌, ◌≤◌, length, drop}
use Rattle.foundation.specs.Lists.{keep_if}
use Rattle.model.specs.declared.Authorization.{Authorization}
use Rattle.model.specs.Report.{is_on}
use Rattle.report.proofs.sheet.count_on.Given as goal

-- how many are on the object
abbrev pub on : ℕ → List Authorization → ℕ
on o xs = length (keep_if (is_on o) xs)

abbrev pub invariant-loop-i : goal.invariant-loop-i
invariant-loop-i l =
    (l.i ≤ length l.authorizations)
    × (l.k ≤ l.i)
    × (l.k + on l.object (drop l.i l.authorizations) ≡ on l.object l.authorizations)
