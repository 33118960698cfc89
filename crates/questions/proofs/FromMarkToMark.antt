-- From mark to mark: what was derived at the mark before was derived at the instant before (`before-next`).
use mathlib.Core.Path.{◌≡◌, sym, ◌∙◌, subst}
use Prim.Native.Nat.{ℕ, suc, ◌*◌, ◌-◌, ◌<◌}
use native.Mathlib.Omega.{arith}
use mathlib.Core.Bool.{Bool, true}
use lib.ListN.{length}
use Rattle.foundation.specs.Marks.{clear}
use Rattle.model.specs.declared.Access.{Access}
use Rattle.model.specs.Base.{Base}
use Rattle.model.specs.Means.{all_marks}
use Rattle.model.proofs.HoldsFacts.{below_steady}
use Rattle.questions.specs.Table.{Bits}
use Rattle.questions.proofs.OneInstant.{Before, Right}

-- between marks nothing changes
pub before_next : (base : Base) (D : Access → Bool) (X : Bits) (a t : ℕ) → a < t →
    clear (all_marks base) a (t - 1) ≡ true → Right base D a X → Before base D X t
before_next base D X a t h c w r x n l u q b =
    let e : t - 1 ≡ u = omega arith in
    w r x n ∙ sym (below_steady base (suc (2 * length base.rules)) r n.0 x a u (omega arith)
    (subst (λ (v : ℕ). clear (all_marks base) a v ≡ true) e c))
