use native.Mathlib.Omega.{arith}
use mathlib.Core.List.{◌++◌}
use lib.ListN.{length-append}
use Rattle.model.specs.Text.{ascii, decimal}
use Rattle.printing.proofs.Lengths.{done-length}
use Rattle.printing.proofs.Placed.{printed-room, printed-then}
use Rattle.printing.proofs.put_done.Goals as goal

pub put_bytes-first-requires : goal.put_bytes-first-requires
put_bytes-first-requires c =
    let a = c.args in omega (arith, done-length a.label a.count)

pub put_decimal-gap-requires : goal.put_decimal-gap-requires
put_decimal-gap-requires c =
    let c₁ = c in
    let a = c₁.args in
    let l = done-length a.label a.count in
    let r₁ = printed-room c₁.put_bytes-first.ensures (omega arith) in
    omega arith

pub put_bytes-second-requires : goal.put_bytes-second-requires
put_bytes-second-requires c =
    let c₂ = c in
    let c₁ = c₂ in
    let a = c₁.args in
    let l = done-length a.label a.count in
    let r₁ = printed-room c₁.put_bytes-first.ensures (omega arith) in
    let r₂ = printed-room c₂.put_decimal-gap.ensures (omega arith) in
    omega arith

pub put_decimal-requires : goal.put_decimal-requires
put_decimal-requires c =
    let c₃ = c in
    let c₂ = c₃ in
    let c₁ = c₂ in
    let a = c₁.args in
    let l = done-length a.label a.count in
    let r₁ = printed-room c₁.put_bytes-first.ensures (omega arith) in
    let r₂ = printed-room c₂.put_decimal-gap.ensures (omega arith) in
    let r₃ = printed-room c₃.put_bytes-second.ensures (omega arith) in
    omega arith

pub returns : goal.returns
returns c =
    let c₄ = c in
    let c₃ = c₄ in
    let c₂ = c₃ in
    let c₁ = c₂ in
    let a = c₁.args in
    let l = done-length a.label a.count in
    printed-then
    (printed-then
    (printed-then c₁.put_bytes-first.ensures (omega arith) c₂.put_decimal-gap.ensures)
    (omega (arith, length-append (ascii "done ") (decimal a.label))) c₃.put_bytes-second.ensures)
    (omega (
      arith,
      length-append (ascii "done " ++ decimal a.label) (ascii " "),
      length-append (ascii "done ") (decimal a.label),
    ))
    c₄.put_decimal.ensures
