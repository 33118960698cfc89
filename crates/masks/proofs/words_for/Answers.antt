use native.Mathlib.Omega.{arith}
use mathlib.Core.Path.{ap}
use Prim.Native.Nat.{ℕ, ◌+◌, ◌/◌}
use Rattle.masks.proofs.Widths.{wide_exact, wide_lt}
use Rattle.masks.proofs.words_for.Goals as goal

pub overflow_add-result : goal.overflow_add-result
overflow_add-result c =
    let a = c.args in
    let e = wide_exact a.fields a.k (omega arith) c.requires in
    omega (arith, wide_lt a.fields a.k (omega arith) c.requires)

pub returns : goal.returns
returns c =
    let a = c.args in
    ap (λ (x : ℕ). (x + 63) / 64) (wide_exact a.fields a.k (omega arith) c.requires)
