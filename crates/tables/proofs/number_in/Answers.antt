use native.Mathlib.Omega.{arith}
use mathlib.Core.Path.{ap}
use Prim.Native.Nat.{ℕ, ◌+◌}
use Rattle.places.proofs.IndexFacts.{index_below}
use Rattle.foundation.specs.BitMasks.{bit-inside}
use Rattle.tables.proofs.number_in.Goals as goal

pub index_in-requires : goal.index_in-requires
index_in-requires c =
    let a = c.args in
    let p = c.requires in
    (omega arith, p.1, bit-inside 32 a.f.grid.modes a.p.point.mode (omega arith) p.1.mode)

pub overflow_add-result : goal.overflow_add-result
overflow_add-result c =
    let a = c.args in
    let p = c.requires in
    omega (arith, c.index_in.ensures, index_below a.f.grid a.b a.p.pair a.p.point p.1)

pub returns : goal.returns
returns c =
    let a = c.args in
    let p = c.requires in (
      ap (λ (i : ℕ). a.from + i) c.index_in.ensures,
      omega (arith, c.index_in.ensures, index_below a.f.grid a.b a.p.pair a.p.point p.1),
    )
