use Rattle.std.proofs.Common.{◌≡◌, true, sym, ap, ap₂, subst, ◌∙◌, List, ℕ, ◌*◌, length, arith}
use Rattle.std.specs.Prelude.{Ok}
use Rattle.foundation.specs.Lists.{allb, keep_if}
use Rattle.model.specs.declared.Authorization.{Authorization}
use Rattle.model.specs.Soundness.{authorization_in}
use Rattle.model.specs.Counting.{counting}
use Rattle.model.specs.Report.{is_on, rows_on}
use Rattle.model.specs.ReportFacts.{rows-length, on_in}
use Rattle.encoding.proofs.SoundBodies.{authorizations_in_lem, counts_in}
use Rattle.report.proofs.SheetByRows.{filled-refused, filled-written}
use Rattle.report.proofs.sheet.fill_page.Goals as goal
use Rattle.report.proofs.sheet.fill_page.Goals.{After-count_on-need}

-- the authorizations' fields are in their ranges
ranges : (c : After-count_on-need) → allb authorization_in c.authorizations-authorizations.result ≡ true
ranges c =
    let b = c.args.base.now in
    subst (λ (xs : List Authorization). allb authorization_in xs ≡ true) (sym c.authorizations-authorizations.ensures)
    (authorizations_in_lem b.bytes.now b.sound)

-- the sheet has 44 bytes for each that is on the object
needed : (c : After-count_on-need) →
    44 * c.count_on-need.result ≡ length (rows_on c.args.object c.authorizations-authorizations.result)
needed c =
    let xs = c.authorizations-authorizations.result in
    let o = c.args.object in
    ap (λ (k : ℕ). 44 * k) c.count_on-need.ensures.0
    ∙ sym (rows-length (keep_if (is_on o) xs) (on_in o xs (ranges c)))

pub overflow_mul-need : goal.overflow_mul-need
overflow_mul-need c =
    let b = c.args.base.now in
    omega (
      arith,
      c.count_on-need.ensures.1,
      ap length c.authorizations-authorizations.ensures,
      (counts_in b.bytes.now b.sound).authorizations,
    )

pub returns-then-page-need : goal.returns-then-page-need
returns-then-page-need c =
    let a = c.args in
    let d = (goal.at.returns-then-page-need c).After-count_on-need in
    sym (rw (sym c.authorizations-authorizations.ensures)
    (filled-refused (rows_on a.object c.authorizations-authorizations.result) a.page.now
    (omega (arith, c.if-page-need.true, needed d))))

pub put_rows-requires : goal.put_rows-requires
put_rows-requires c =
    let d = (goal.at.put_rows-requires c).After-count_on-need in
    (ranges d, omega (arith, c.if-page-need.false, needed d))

pub returns : goal.returns
returns c =
    let a = c.args in
    let d = (goal.at.returns c).After-count_on-need in
    ap₂ (λ (n : ℕ) (page : List ℕ). counting (Ok n) page) (needed d) c.put_rows.ensures
    ∙ sym (rw (sym c.authorizations-authorizations.ensures)
    (filled-written (rows_on a.object c.authorizations-authorizations.result) a.page.now
    (omega (arith, c.if-page-need.false, needed d))))
