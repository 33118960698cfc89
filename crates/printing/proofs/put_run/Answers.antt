use native.Mathlib.Omega.{arith}
use lib.ListN.{length-append}
use Rattle.foundation.specs.Intervals.{interval}
use Rattle.model.specs.Text.{ascii, print_instant}
use Rattle.printing.proofs.Lengths.{run_length}
use Rattle.printing.proofs.Placed.{printed-room, printed-then}
use Rattle.printing.proofs.put_run.Goals as goal

pub put_instant-dash-requires : goal.put_instant-dash-requires
put_instant-dash-requires c =
    let a = c.args in omega (arith, run_length (interval a.start a.end))

pub put_bytes-last-requires : goal.put_bytes-last-requires
put_bytes-last-requires c =
    let c₁ = c in
    let a = c₁.args in
    let l = run_length (interval a.start a.end) in
    omega (arith, printed-room c₁.put_instant-dash.ensures (omega arith))

pub put_instant-requires : goal.put_instant-requires
put_instant-requires c =
    let c₂ = c in
    let c₁ = c₂ in
    let a = c₁.args in
    let l = run_length (interval a.start a.end) in
    let r₁ = printed-room c₁.put_instant-dash.ensures (omega arith) in
    omega (arith, printed-room c₂.put_bytes-last.ensures (omega arith))

pub returns : goal.returns
returns c =
    let c₃ = c in
    let c₂ = c₃ in
    let c₁ = c₂ in
    let a = c₁.args in
    let l = run_length (interval a.start a.end) in
    let m = length-append (print_instant a.start) (ascii "-") in
    printed-then (printed-then c₁.put_instant-dash.ensures (omega arith) c₂.put_bytes-last.ensures)
    (omega arith)
    c₃.put_instant.ensures
