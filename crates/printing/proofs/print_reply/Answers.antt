use native.Mathlib.Omega.{arith}
use Rattle.printing.proofs.Lengths.{reply_most, fit_in}
use Rattle.printing.proofs.Placed.{printed-room, printed_front}
use Rattle.printing.proofs.print_reply.Goals as goal

pub put_reply-requires : goal.put_reply-requires
put_reply-requires c =
    let c₀ = c in
    let a = c₀.args in (
      omega (arith, reply_most a.r a.list.now c₀.requires.1),
      fit_in a.r a.list.now c₀.requires.1,
    )

pub returns : goal.returns
returns c =
    let c₁ = c in
    let c₀ = c₁ in
    let p = c₁.put_reply.ensures in
    let m = reply_most c₀.args.r c₀.args.list.now c₀.requires.1 in
    (printed_front p, omega (arith, p.ends), printed-room p (omega arith))
