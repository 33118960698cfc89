use native.Mathlib.Omega.{arith}
use Rattle.printing.proofs.Placed.{ready, printed_reply}
use Rattle.printing.proofs.put_reply.Goals as goal

pub put_done-requires : goal.put_done-requires
put_done-requires c =
    let s = c in
    let w = ready s.args.out.now s.args.list.now c.in-Done.is s.requires in
    omega (arith, w.0)

pub put_refused-requires : goal.put_refused-requires
put_refused-requires c =
    let s = c in
    let w = ready s.args.out.now s.args.list.now c.in-Refused.is s.requires in
    omega (arith, w.0)

pub put_bytes-requires : goal.put_bytes-requires
put_bytes-requires c =
    let s = c in
    let w = ready s.args.out.now s.args.list.now c.in-Unsupported.is
    s.requires in
    omega (arith, w.0)

pub put_bytes-requires-in-Yes : goal.put_bytes-requires-in-Yes
put_bytes-requires-in-Yes c =
    let s = c in
    let w = ready s.args.out.now s.args.list.now c.in-Yes.is
    s.requires in
    omega (arith, w.0)

pub put_bytes-requires-in-No : goal.put_bytes-requires-in-No
put_bytes-requires-in-No c =
    let s = c in
    let w = ready s.args.out.now s.args.list.now c.in-No.is
    s.requires in
    omega (arith, w.0)

pub put_runs-requires : goal.put_runs-requires
put_runs-requires c =
    let s = c in
    let w = ready s.args.out.now s.args.list.now c.in-Runs.is s.requires in
    (omega (arith, w.0), w.1)

pub returns-in-Done : goal.returns-in-Done
returns-in-Done c =
    let c₁ = c in
    printed_reply _ c₁.in-Done.is c₁.put_done.ensures

pub returns-in-Refused : goal.returns-in-Refused
returns-in-Refused c =
    let c₁ = c in
    printed_reply _ c₁.in-Refused.is c₁.put_refused.ensures

pub returns-in-Unsupported : goal.returns-in-Unsupported
returns-in-Unsupported c =
    let c₁ = c in
    printed_reply _ c₁.in-Unsupported.is c₁.put_bytes.ensures

pub returns-in-Yes : goal.returns-in-Yes
returns-in-Yes c =
    let c₁ = c in
    printed_reply _ c₁.in-Yes.is c₁.put_bytes-in-Yes.ensures

pub returns-in-No : goal.returns-in-No
returns-in-No c =
    let c₁ = c in
    printed_reply _ c₁.in-No.is c₁.put_bytes-in-No.ensures

pub returns-in-Runs : goal.returns-in-Runs
returns-in-Runs c =
    let c₁ = c in
    printed_reply _ c₁.in-Runs.is c₁.put_runs.ensures
