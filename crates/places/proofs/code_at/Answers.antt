use native.Mathlib.Nat.{mod-lt, div-lt_iff_lt-mul}
use native.Mathlib.Omega.{arith}
use mathlib.Core.Path.{ap₂}
use Prim.Native.Nat.{ℕ, ◌+◌, ◌*◌, ◌/◌, ◌%◌, ◌≤◌, ◌<◌}
use Rattle.places.specs.ReachedNumbers.{code_of}
use Rattle.places.proofs.code_at.Goals as goal

code_small : (n j : ℕ) → (0 < n) × (n ≤ 256) × (j < 256 * n) → 256 * (j / n) + j % n < 65536
code_small n j p =
    let q : j / n < 256 = (div-lt_iff_lt-mul p.0).1 p.2 in
    omega (arith, mod-lt j p.0, p.1)

pub overflow_mul-result : goal.overflow_mul-result
overflow_mul-result c =
    let p = c.pair_of_index-p.ensures in
    let b = c in
    omega (arith, code_small b.args.subjects b.args.j b.requires, p.0)

pub overflow_add-result : goal.overflow_add-result
overflow_add-result c =
    let p = c.pair_of_index-p.ensures in
    let b = c in
    omega (arith, code_small b.args.subjects b.args.j b.requires, p.0, p.1)

pub overflow_cast-result : goal.overflow_cast-result
overflow_cast-result c =
    let p = c.pair_of_index-p.ensures in
    let b = c in
    omega (arith, code_small b.args.subjects b.args.j b.requires, p.0, p.1)

pub returns : goal.returns
unfolding code_of
returns c =
    let p = c.pair_of_index-p.ensures in
    ap₂ (λ (o s : ℕ). 256 * o + s) p.0 p.1
