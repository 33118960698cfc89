use native.Mathlib.Omega.{arith}
use native.Mathlib.Nat.{mod-eq_of_lt, pow-le-pow_right}
use Prim.Native.Nat.{◌^◌, ◌≤◌}
use Rattle.places.proofs.both_signs.Goals as goal

pub returns : goal.returns
returns c =
    let m = c.args.mode in
    let l : m ≤ 7 = omega (arith, c.requires) in
    let h : 2 ^ m ≤ 2 ^ 7 = pow-le-pow_right {n = 2} (omega arith) l in
    mod-eq_of_lt (omega arith)
