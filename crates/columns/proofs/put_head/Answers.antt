use native.Mathlib.Omega.{arith}
use mathlib.Core.Path.{ap, ◌∙◌}
use mathlib.Core.List.{List, [], ◌∷◌, ◌++◌}
use Prim.Native.Nat.{ℕ}
use lib.ListN.{length}
use Rattle.model.specs.declared.Head.{Head}
use Rattle.model.specs.Text.{space, decimal}
use Rattle.model.specs.Report.{aligned}
use Rattle.columns.specs.Columns.{head_columns}
use Rattle.columns.proofs.RowFilling.{BeginsWith, put, begun_none, begun-length, begun_column}
use Rattle.columns.proofs.RowFilling.{begun-part}
use Rattle.columns.proofs.RowFilling.{begun_all}
use Rattle.columns.proofs.put_head.Goals as goal

-- the four columns with numbers
abbrev numbers : Head → List ℕ
numbers h =
    aligned 5 (decimal h.label)
    ++ aligned 5 (decimal h.grantor)
    ++ aligned 5 (decimal h.subject)
    ++ aligned 2 (decimal h.mode)

pub returns : goal.returns
unfolding head_columns
returns c =
    let four : (let n₄ = c in let n₃ = n₄ in let n₂ = n₃ in let n₁ = n₂ in let a = n₁.args in BeginsWith a.row.now (numbers a.h) (put (put (put (put a.row.now 0 5 n₁.put_number.new.column) 5 10 n₂.put_number-2.new.column) 10 15 n₃.put_number-3.new.column) 15 17 n₄.put_number-4.new.column) 17) =
    let n₄ = c in
    let n₃ = n₄ in
    let n₂ = n₃ in
    let n₁ = n₂ in
    let start = n₁ in
    let h = start.args.h in
    let l = start.requires.0 in
    let f = start.requires.1 in
    let b₁ = begun_column (begun_none start.args.row.now) 5 (decimal h.label)
    n₁.put_number.new.column
    (omega arith) (omega arith) f.label n₁.put_number.ensures in
    let b₂ = begun_column b₁ 10 (decimal h.grantor) n₂.put_number-2.new.column (omega arith) (omega arith)
    (omega (arith, f.grantor)) n₂.put_number-2.ensures in
    let b₃ = begun_column b₂ 15 (decimal h.subject) n₃.put_number-3.new.column (omega arith) (omega arith)
    (omega (arith, f.subject)) n₃.put_number-3.ensures in
    begun_column b₃ 17 (decimal h.mode) n₄.put_number-4.new.column (omega arith) (omega arith)
    (omega (arith, f.mode)) n₄.put_number-4.ensures in
    let h = c.args.h in
    let y = c.copy_from_slice.ensures.after in
    begun_all (begun-part four 21 c.copy_from_slice.new.self (omega arith) (ap length y)) c.requires.0
    ∙ ap (λ (l : List ℕ). numbers h ++ l) y
    ∙ (λ k. numbers h ++ (space ∷ (c.sign_byte.ensures k ++ (space ∷ c.option_byte.ensures k))))
