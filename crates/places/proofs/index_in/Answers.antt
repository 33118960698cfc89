use native.Mathlib.Omega.{arith}
use mathlib.Core.Path.{◌≡◌, ap, ap₂, ◌∙◌}
use Prim.Native.Nat.{ℕ, ◌+◌, ◌*◌, ◌<◌}
use Rattle.foundation.specs.Tests.{pick}
use Rattle.places.specs.Regions.{free, index_in}
use Rattle.places.proofs.IndexFacts.{index_below}
use Rattle.places.proofs.index_in.Goals as goal

-- what is answered is the number
numbered : (c : goal.After-mode_size) →
    (let a = c.args in
    c.chosen.result * c.mode_size.result + c.chosen-m.result
    ≡ index_in a.g a.b a.n a.x)
unfolding index_in
numbered c =
    let f = c in
    let b = f.args.b in
    let o = c.chosen.ensures
    ∙ ap₂ (λ (m f : ℕ). pick (free b.subject) m f) f.chosen-many.ensures f.chosen-few.ensures in
    let m = c.chosen-m.ensures
    ∙ ap (λ (r : ℕ). pick (free b.mode) r 0) c.rank_of.ensures in
    ap₂ (λ (x y : ℕ). x + y) (ap₂ (λ (x y : ℕ). x * y) o c.mode_size.ensures) m

below : (c : goal.After-mode_size) →
    c.chosen.result * c.mode_size.result + c.chosen-m.result < 4294967296
below c =
    let d = c in
    let a = d.args in
    omega (arith, numbered c, index_below a.g a.b a.n a.x d.requires.1, d.requires.0)

pub overflow_mul-result : goal.overflow_mul-result
overflow_mul-result = λ c. omega (arith, below c)

pub overflow_add-result : goal.overflow_add-result
overflow_add-result = λ c. omega (arith, below c)

pub returns : goal.returns
returns = numbered
