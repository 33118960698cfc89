use Rattle.std.proofs.Common.{◌≡◌, true, ◌++◌, ◌≤◌, length, take, drop}
use Rattle.foundation.specs.Lists.{allb}
use Rattle.model.specs.Soundness.{authorization_in}
use Rattle.model.specs.Report.{rows_on}
use Rattle.report.proofs.sheet.put_rows.Given as goal

abbrev pub invariant-loop-i : goal.invariant-loop-i
invariant-loop-i l =
    (l.i ≤ length l.authorizations) × (l.at ≤ length l.page) × (length l.page ≡ length l.initial.page)
    × (allb authorization_in (drop l.i l.authorizations) ≡ true)
    × (take l.at l.page ++ rows_on l.object (drop l.i l.authorizations) ≡ rows_on l.object l.authorizations)
    × (drop l.at l.page ≡ drop l.at l.initial.page)
