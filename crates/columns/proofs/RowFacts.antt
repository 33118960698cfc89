-- A column with the blank before it is a column that is one wider (`row-filled`). Assumes nothing.
use mathlib.Core.Path.{◌≡◌, sym}
use mathlib.Core.List.{[], ◌∷◌, ◌++◌, append_assoc}
use Rattle.model.specs.declared.Authorization.{Authorization}
use Rattle.model.specs.Text.{newline, space, decimal, print_instant}
use Rattle.model.specs.TextFacts.{instant-most}
use Rattle.model.specs.Report.{aligned, print_sign, print_option, report_row}
use Rattle.model.specs.ReportFacts.{Fits, aligned_more}
use Rattle.columns.specs.Columns.{head_columns}

pub row-filled : (a : Authorization) → Fits a.head →
    head_columns a.head
    ++ aligned 11 (print_instant a.interval.start)
    ++ aligned 11 (print_instant a.interval.end)
    ++ (newline ∷ [])
    ≡ report_row a
unfolding head_columns report_row
row-filled a f =
    let h = a.head in
    let start = print_instant a.interval.start in
    let end = print_instant a.interval.end in
    simp append_assoc (λ k.
    aligned 5 (decimal h.label)
    ++ (sym (aligned_more 4 (decimal h.grantor) f.grantor) k
    ++ (sym (aligned_more 4 (decimal h.subject) f.subject) k
    ++ (sym (aligned_more 1 (decimal h.mode) f.mode) k
    ++ (space ∷ (print_sign h
    ++ (space ∷ (print_option h
    ++ (sym (aligned_more 10 start (instant-most a.interval.start)) k
    ++ (sym (aligned_more 10 end (instant-most a.interval.end)) k
    ++ (newline ∷ [])))))))))))
