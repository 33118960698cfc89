use Rattle.std.proofs.Common.{sym, ap, ◌∙◌, true, false, arith}
use Rattle.std.proofs.lemmas.List.{drop_all}
use Rattle.report.proofs.Adding.{count_next}
use Rattle.report.proofs.sheet.count_on.Invariants.{on}
use Rattle.report.proofs.sheet.count_on.Goals as goal
use Rattle.report.proofs.sheet.count_on.Goals.{then-is_on, else-is_on}

pub loop-i-preserved : goal.loop-i-preserved
loop-i-preserved c =
    let a = c.args in
    let e = sym c.is_on.ensures in
    let next = count_next a.object a.authorizations.now c.loop-i.i c.get.result c.get.ensures in
    elim c.if-is_on.branch [
      | then-is_on w ↦ (omega arith, omega arith, omega (arith, next true (e ∙ w.if-is_on.true)))
      | else-is_on w ↦ (omega arith, omega arith, omega (arith, next false (e ∙ w.if-is_on.false)))
    ]

pub returns : goal.returns
returns c =
    let a = c.args in
    let l = c.loop-i in
    let e = ap (on a.object) (drop_all l.i a.authorizations.now (omega (arith, c.len-i-end.ensures))) in
    (omega (arith, e), omega arith)
