use Rattle.std.proofs.Common.{◌≡◌, sym, ap, ap₂, ◌∙◌, true, false, List, ◌++◌, ℕ, ◌+◌, ◌-◌, ◌≤◌, length, take, drop, arith}
use Rattle.std.proofs.Common.{append_assoc, length-append, length-drop, take-append-drop}
use Rattle.std.proofs.lemmas.List.{drop_all, append-nil}
use lib.Seq.{length-take-le}
use Rattle.foundation.specs.BytesFacts.{rest_behind}
use Rattle.fields.specs.Field.{splice}
use Rattle.fields.proofs.ByteLaws.{part-back}
use Rattle.model.specs.declared.Authorization.{Authorization}
use Rattle.model.specs.Report.{report_row, rows_on}
use Rattle.model.specs.ReportFacts.{row-width}
use Rattle.printing.specs.Print.{Printed}
use Rattle.printing.proofs.Placed.{printed-room}
use Rattle.report.proofs.Adding.{rows_next, ranges_next, put-before, put_behind}
use Rattle.report.proofs.sheet.put_rows.Goals as goal
use Rattle.report.proofs.sheet.put_rows.Goals.{After-is_on}

-- the page has room for the row of the next authorization
room : (c : After-is_on) → c.is_on.result ≡ true → c.loop-i.at + 44 ≤ length c.loop-i.page
room c q =
    let l = c.loop-i in
    let a = c.args in
    let x = c.get-a.result in
    let rest = rows_on a.object (drop (l.i + 1) a.authorizations.now) in
    let front = take l.at l.page in
    let next = rows_next a.object a.authorizations.now l.i x c.get-a.ensures true (sym c.is_on.ensures ∙ q) in
    omega (
      arith,
      ap length (sym l.invariant.4) ∙ ap (λ (y : List ℕ). length (front ++ y)) next,
      length-append front (report_row x ++ rest),
      length-append (report_row x) rest,
      row-width x (ranges_next a.object a.authorizations.now l.i x c.get-a.ensures l.invariant.3).0,
      length-take-le l.at l.page l.invariant.1,
      c.requires.1,
      l.invariant.2,
    )

pub slice_bounds-put_row-end : goal.slice_bounds-put_row-end
slice_bounds-put_row-end c = room (goal.at.slice_bounds-put_row-end c).After-is_on c.if-not-is_on.false

pub put_row-requires : goal.put_row-requires
put_row-requires c =
    let l = c.loop-i in
    let h = room (goal.at.put_row-requires c).After-is_on c.if-not-is_on.false in
    let e : l.at + 44 - l.at ≡ 44 = omega arith in
    let long : 44 ≤ length (drop l.at l.page) = simp length-drop (omega arith) in (
      rw e (length-take-le 44 (drop l.at l.page) long),
      (ranges_next c.args.object c.args.authorizations.now l.i c.get-a.result c.get-a.ensures l.invariant.3).0,
    )

-- nothing is put for one that is not on the object
pub loop-i-preserved-then-not-is_on : goal.loop-i-preserved-then-not-is_on
loop-i-preserved-then-not-is_on c =
    let l = c.loop-i in
    let a = c.args in
    let xs = a.authorizations.now in
    let x = c.get-a.result in (
      omega arith,
      l.invariant.1,
      l.invariant.2,
      (ranges_next a.object xs l.i x c.get-a.ensures l.invariant.3).1,
      ap (λ (y : List ℕ). take l.at l.page ++ y)
          (sym (rows_next a.object xs l.i x c.get-a.ensures false (sym c.is_on.ensures ∙ c.if-not-is_on.true)))
          ∙ l.invariant.4,
      l.invariant.5,
    )

pub loop-i-preserved : goal.loop-i-preserved
loop-i-preserved c =
    let l = c.loop-i in
    let a = c.args in
    let xs = a.authorizations.now in
    let x = c.get-a.result in
    let ranges = ranges_next a.object xs l.i x c.get-a.ensures l.invariant.3 in
    let rest = rows_on a.object (drop (l.i + 1) xs) in
    let h = room (goal.at.loop-i-preserved c).After-is_on c.if-not-is_on.false in
    let long = row-width x ranges.0 in
    let p : Printed l.at (report_row x) l.page _ (l.at + 44) = record {
      ends = omega (arith, long);
      bytes = part-back l.page l.at (l.at + 44) c.put_row.new.row (omega arith) h
          (ap length c.put_row.ensures ∙ omega (arith, long))
          ∙ ap (λ (y : List ℕ). splice l.at y l.page) c.put_row.ensures;
    } in
    let fits : l.at + length (report_row x) ≤ length l.page = omega (arith, h, long) in
    let same = printed-room p fits in (
      omega arith,
      omega (arith, same, h),
      same ∙ l.invariant.2,
      ranges.1,
      ap (λ (y : List ℕ). y ++ rest) (put-before p fits)
          ∙ append_assoc (take l.at l.page) (report_row x) rest
          ∙ ap (λ (y : List ℕ). take l.at l.page ++ y)
          (sym (rows_next a.object xs l.i x c.get-a.ensures true (sym c.is_on.ensures ∙ c.if-not-is_on.false)))
          ∙ l.invariant.4,
      put_behind p fits ∙ rest_behind a.page.now l.page l.at (l.at + 44) (omega arith) l.invariant.5,
    )

pub returns : goal.returns
returns c =
    let l = c.loop-i in
    let a = c.args in
    let xs = a.authorizations.now in
    let front = take l.at l.page in
    let whole : front ≡ rows_on a.object xs =
    sym (append-nil front)
    ∙ ap (λ (ys : List Authorization). front ++ rows_on a.object ys)
    (sym (drop_all l.i xs (omega (arith, c.len-i-end.ensures))))
    ∙ l.invariant.4 in
    let long : l.at ≡ length (rows_on a.object xs) =
    sym (length-take-le l.at l.page l.invariant.1) ∙ ap length whole in
    sym (take-append-drop l.at l.page)
    ∙ ap₂ (λ (x y : List ℕ). x ++ y) whole
    (l.invariant.5 ∙ ap (λ (n : ℕ). drop n a.page.now) long)
