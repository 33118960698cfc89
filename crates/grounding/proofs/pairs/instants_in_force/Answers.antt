use native.Mathlib.Omega.{arith}
use mathlib.Core.Path.{ap₂, ◌∙◌}
use Prim.Native.Nat.{ℕ, ◌+◌}
use lib.Bits.{and_le_l}
use Rattle.words.specs.Bits.{less}
use Rattle.words.specs.Fields.{field_of}
use Rattle.places.specs.declared.Region.{Region}
use Rattle.places.specs.Regions.{index_in}
use Rattle.grounding.proofs.pairs.instants_in_force.Goals as goal

pub field_in-held-requires : goal.field_in-held-requires
field_in-held-requires c = c.requires.0

pub returns-then-t : goal.returns-then-t
returns-then-t c = rw c.if-t.true c.field_in-held.ensures

pub denials_start-requires : goal.denials_start-requires
denials_start-requires c = omega (arith, c.requires.1.high)

pub field_in-requires : goal.field_in-requires
field_in-requires c =
    let s = c in
    rw (c.denials_start.ensures, c.all_places.ensures) s.requires.1

pub overflow_sub-result : goal.overflow_sub-result
overflow_sub-result c = and_le_l c.field_in-held.result c.field_in.result

pub returns : goal.returns
returns c =
    let d = c in
    let a = d.args in
    let b = c.all_places.ensures in
    let e = c.denials_start.ensures in
    let field : ℕ → Region → ℕ = λ from b.
    field_of a.f.width a.words.now (from + index_in a.f.grid b a.y.pair a.y.point) in
    rw d.if-t.false (ap₂ less d.field_in-held.ensures (c.field_in.ensures ∙ ap₂ field e b))
