use native.Mathlib.Omega.{arith}
use mathlib.Core.Path.{ap, ◌∙◌}
use mathlib.Core.List.{List, [], ◌∷◌, ◌++◌}
use Prim.Native.Nat.{ℕ}
use lib.ListN.{length-set}
use Rattle.fields.proofs.ByteLaws.{stores}
use Rattle.model.specs.Text.{newline, print_instant}
use Rattle.model.specs.TextFacts.{instant-most}
use Rattle.model.specs.Report.{aligned}
use Rattle.model.specs.ReportFacts.{head_fits}
use Rattle.columns.proofs.RowFilling.{BeginsWith, put, begun_none, begun-length, begun-room}
use Rattle.columns.proofs.RowFilling.{begun-part}
use Rattle.columns.proofs.RowFilling.{begun_column, begun-splice, begun_all}
use Rattle.columns.proofs.RowFacts.{row-filled}
use Rattle.columns.proofs.put_row.Goals as goal

pub put_head-requires : goal.put_head-requires
put_head-requires c =
    let start = c in
    let l = start.requires.0 in (
      begun-room (begun_none start.args.row.now) 21 (omega arith) (omega arith),
      head_fits start.args.a start.requires.1,
    )

pub put_instant-requires : goal.put_instant-requires
put_instant-requires c =
    let one : (let p = c in let a = p.args in BeginsWith a.row.now p.put_head.new.row (put a.row.now 0 21 p.put_head.new.row) 21) =
    let p = c in
    let start = p in
    let l = start.requires.0 in
    let none = begun_none start.args.row.now in
    begun-part none 21 p.put_head.new.row (omega arith)
    (p.put_head.auto.row ∙ begun-room none 21 (omega arith) (omega arith)) in
    let r = c in
    let start = r in
    let l = start.requires.0 in
    omega (
      arith,
      begun-room (one) 32 (omega arith) (omega arith),
      instant-most
          start.args.a.interval.start,
    )

pub put_instant-requires-2 : goal.put_instant-requires-2
put_instant-requires-2 c =
    let one : (let p = c in let a = p.args in BeginsWith a.row.now p.put_head.new.row (put a.row.now 0 21 p.put_head.new.row) 21) =
    let p = c in
    let start = p in
    let l = start.requires.0 in
    let none = begun_none start.args.row.now in
    begun-part none 21 p.put_head.new.row (omega arith)
    (p.put_head.auto.row ∙ begun-room none 21 (omega arith) (omega arith)) in
    let two : (let i = c in let p = i in let a = p.args in BeginsWith a.row.now (p.put_head.new.row ++ aligned 11 (print_instant a.a.interval.start)) (put (put a.row.now 0 21 p.put_head.new.row) 21 32 i.put_instant.new.column) 32) =
    let i = c in
    let r = i in
    let start = r in
    let l = start.requires.0 in
    let t = start.args.a.interval.start in
    begun_column (one) 32 (print_instant t) i.put_instant.new.column (omega arith) (omega arith)
    (omega (arith, instant-most t)) i.put_instant.ensures in
    let r = c in
    let start = r in
    let l = start.requires.0 in
    omega (
      arith,
      begun-room (two) 43 (omega arith) (omega arith),
      instant-most
          start.args.a.interval.end,
    )

pub shape_of-row : goal.shape_of-row
shape_of-row c =
    let one : (let p = c in let a = p.args in BeginsWith a.row.now p.put_head.new.row (put a.row.now 0 21 p.put_head.new.row) 21) =
    let p = c in
    let start = p in
    let l = start.requires.0 in
    let none = begun_none start.args.row.now in
    begun-part none 21 p.put_head.new.row (omega arith)
    (p.put_head.auto.row ∙ begun-room none 21 (omega arith) (omega arith)) in
    let two : (let i = c in let p = i in let a = p.args in BeginsWith a.row.now (p.put_head.new.row ++ aligned 11 (print_instant a.a.interval.start)) (put (put a.row.now 0 21 p.put_head.new.row) 21 32 i.put_instant.new.column) 32) =
    let i = c in
    let r = i in
    let start = r in
    let l = start.requires.0 in
    let t = start.args.a.interval.start in
    begun_column (one) 32 (print_instant t) i.put_instant.new.column (omega arith) (omega arith)
    (omega (arith, instant-most t)) i.put_instant.ensures in
    let three : (let j = c in let i = j in let p = i in let a = p.args in BeginsWith a.row.now (p.put_head.new.row ++ aligned 11 (print_instant a.a.interval.start) ++ aligned 11 (print_instant a.a.interval.end)) (put (put (put a.row.now 0 21 p.put_head.new.row) 21 32 i.put_instant.new.column) 32 43 j.put_instant-2.new.column) 43) =
    let j = c in
    let r = j in
    let start = r in
    let l = start.requires.0 in
    let t = start.args.a.interval.end in
    begun_column (two) 43 (print_instant t) j.put_instant-2.new.column (omega arith) (omega arith)
    (omega (arith, instant-most t)) j.put_instant-2.ensures in
    let r = c in
    let l = r.requires.0 in
    simp length-set (begun-length (three) (omega arith))

pub returns : goal.returns
returns c =
    let one : (let p = c in let a = p.args in BeginsWith a.row.now p.put_head.new.row (put a.row.now 0 21 p.put_head.new.row) 21) =
    let p = c in
    let start = p in
    let l = start.requires.0 in
    let none = begun_none start.args.row.now in
    begun-part none 21 p.put_head.new.row (omega arith)
    (p.put_head.auto.row ∙ begun-room none 21 (omega arith) (omega arith)) in
    let two : (let i = c in let p = i in let a = p.args in BeginsWith a.row.now (p.put_head.new.row ++ aligned 11 (print_instant a.a.interval.start)) (put (put a.row.now 0 21 p.put_head.new.row) 21 32 i.put_instant.new.column) 32) =
    let i = c in
    let r = i in
    let start = r in
    let l = start.requires.0 in
    let t = start.args.a.interval.start in
    begun_column (one) 32 (print_instant t) i.put_instant.new.column (omega arith) (omega arith)
    (omega (arith, instant-most t)) i.put_instant.ensures in
    let three : (let j = c in let i = j in let p = i in let a = p.args in BeginsWith a.row.now (p.put_head.new.row ++ aligned 11 (print_instant a.a.interval.start) ++ aligned 11 (print_instant a.a.interval.end)) (put (put (put a.row.now 0 21 p.put_head.new.row) 21 32 i.put_instant.new.column) 32 43 j.put_instant-2.new.column) 43) =
    let j = c in
    let r = j in
    let start = r in
    let l = start.requires.0 in
    let t = start.args.a.interval.end in
    begun_column (two) 43 (print_instant t) j.put_instant-2.new.column (omega arith) (omega arith)
    (omega (arith, instant-most t)) j.put_instant-2.ensures in
    let r = c in
    let p = r in
    let start = p in
    let a = start.args.a in
    let l = start.requires.0 in
    let b = three in
    stores 43 (newline ∷ []) _ (omega (arith, begun-length b (omega arith)))
    ∙ begun_all (begun-splice b (newline ∷ []) (omega arith)) l
    ∙ ap (λ (head : List ℕ). head
    ++ aligned 11 (print_instant a.interval.start)
    ++ aligned 11 (print_instant a.interval.end)
    ++ (newline ∷ [])) p.put_head.ensures
    ∙ row-filled a (head_fits a start.requires.1)
