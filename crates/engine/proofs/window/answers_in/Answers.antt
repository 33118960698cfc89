use native.Mathlib.Omega.{arith}
use mathlib.Core.Path.{refl, ap, ap₂, ◌∙◌}
use mathlib.Core.Bool.{not, ◌&&◌}
use Prim.Native.Nat.{ℕ, ◌+◌}
use lib.Bits.{and_le_l}
use lib.ListN.{length}
use Rattle.foundation.specs.BitMasks.{bit}
use Rattle.words.proofs.CutBit.{bit-less}
use Rattle.words.specs.Fields.{field_of}
use Rattle.places.specs.declared.Region.{Region}
use Rattle.places.specs.Regions.{index_in}
use Rattle.tables.proofs.GivingSteps.{reaches}
use Rattle.engine.proofs.window.answers_in.Goals as goal

pub field_in-granted-requires : goal.field_in-granted-requires
field_in-granted-requires c =
    let s = c in
    let a = s.args in
    rw c.all_places-b.ensures
    (reaches a.f a.right.now a.first.now (length a.words.now) a.p s.requires.0 s.requires.1
    0 refl)

pub denials_start-requires : goal.denials_start-requires
denials_start-requires c =
    let s = c in
    omega (arith, s.requires.0.laid.high 1 refl)

pub field_in-denied-requires : goal.field_in-denied-requires
field_in-denied-requires c =
    let s = c in
    let a = s.args in
    rw (c.denials_start.ensures, c.all_places-b.ensures)
    (reaches a.f a.right.now a.first.now (length a.words.now) a.p s.requires.0 s.requires.1
    1 refl)

pub overflow_sub-result : goal.overflow_sub-result
overflow_sub-result c = and_le_l c.field_in-granted.result c.field_in-denied.result

pub returns : goal.returns
returns c =
    let s = c in
    let a = s.args in
    let b = c.all_places-b.ensures in
    let e = c.denials_start.ensures in
    let field : ℕ → Region → ℕ = λ from b.
    field_of a.f.width a.words.now (from + index_in a.f.grid b a.p.pair a.p.point) in
    λ i. bit-less i c.field_in-granted.result c.field_in-denied.result
    ∙ ap₂ (λ (m n : ℕ). bit i m && not (bit i n)) (c.field_in-granted.ensures ∙ ap (field 0) b)
    (c.field_in-denied.ensures ∙ ap₂ field e b)
