use native.Mathlib.Omega.{arith}
use Rattle.printing.proofs.Lengths.{refused-length}
use Rattle.printing.proofs.Placed.{printed-room, printed-then}
use Rattle.printing.proofs.put_refused.Goals as goal

pub put_bytes-number-requires : goal.put_bytes-number-requires
put_bytes-number-requires c = omega (arith, refused-length c.args.k)

pub put_decimal-requires : goal.put_decimal-requires
put_decimal-requires c =
    let c₁ = c in
    let l = refused-length c₁.args.k in
    omega (arith, printed-room c₁.put_bytes-number.ensures (omega arith))

pub returns : goal.returns
returns c =
    let c₂ = c in
    let c₁ = c₂ in
    let l = refused-length c₁.args.k in
    printed-then c₁.put_bytes-number.ensures (omega arith) c₂.put_decimal.ensures
