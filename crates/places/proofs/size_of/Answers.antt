use native.Mathlib.Omega.{arith}
use mathlib.Core.Path.{ap₂, ◌∙◌}
use Prim.Native.Nat.{ℕ, ◌*◌}
use Rattle.foundation.specs.Tests.{pick}
use Rattle.places.specs.Regions.{free, size_of}
use Rattle.places.proofs.size_of.Goals as goal

pub overflow_mul-result : goal.overflow_mul-result
unfolding size_of
overflow_mul-result c =
    let b = c.args.b in
    let e = ap₂ (λ (a q : ℕ). a * q) (c.chosen.ensures
    ∙ ap₂ (λ (m f : ℕ). pick (free b.subject) m f)
    c.chosen-many.ensures c.chosen-few.ensures) c.mode_size.ensures in
    omega (arith, c.requires)

pub returns : goal.returns
unfolding size_of
returns c =
    let b = c.args.b in
    ap₂ (λ (a q : ℕ). a * q) (c.chosen.ensures ∙ ap₂ (λ (m f : ℕ). pick (free b.subject) m f)
    c.chosen-many.ensures c.chosen-few.ensures) c.mode_size.ensures
