-- A window: instants in rising order between which nothing changes. What a rule derives at each of them is
-- made, one after the other, of what its right side is then and of what it derived at the one before
-- (`word-right`).
use mathlib.Core.Path.{◌≡◌, refl, sym, ap, ◌∙◌}
use Prim.Native.Nat.{ℕ, zero, suc, ◌-◌, ◌<◌}
use native.Mathlib.Omega.{arith}
use mathlib.Core.Bool.{Bool, true, not, ◌&&◌, ◌||◌}
use lib.Dec.{eqb}
use Rattle.foundation.specs.Intervals.{in_interval}
use Rattle.foundation.specs.Marks.{clear}
use Rattle.model.specs.declared.Rule.{Rule}
use Rattle.model.specs.declared.Access.{Access}
use Rattle.model.specs.Stratification.{stratified, lasting}
use Rattle.model.specs.Means.{all_marks}
use Rattle.model.specs.Base.{Base}
use Rattle.questions.proofs.OperatorSteps.{sense}
use Rattle.questions.specs.Table.{Bits, truth}
use Rattle.questions.proofs.OneInstant.{right_in, gate, Node, Before, now-law}
use Rattle.questions.proofs.FromMarkToMark.{before_next}

-- what a rule derives at mark i, `right` saying what its right side is at each mark and `before` what it
-- derived before the first
abbrev pub made : Rule → (ℕ → ℕ) → (ℕ → Bool) → Bool → ℕ → Bool
made r ms right before zero =
    (in_interval r.interval (ms 0) && (not (lasting r.operator) || eqb (ms 0) r.interval.start ||
    before))
    && sense r.operator (right 0)
made r ms right before (suc i) =
    let was = made r ms right before i in
    (in_interval r.interval (ms (suc i))
    && (not (lasting r.operator) || eqb (ms (suc i)) r.interval.start || was))
    && sense r.operator (right (suc i))

module _ (base : Base) where
  -- the first k of these instants are a window
  pub record Window (k : ℕ) (ms : ℕ → ℕ) : Type 0 where
    pub rising : (i : ℕ) → suc i < k → ms i < ms (suc i)
    pub between : (i : ℕ) → suc i < k → clear (all_marks base) (ms i) (ms (suc i) - 1) ≡ true

  -- made of a right side that is right, the word is right
  pub word_right : stratified base.rules ≡ true → (k : ℕ) (ms : ℕ → ℕ) → Window k ms → (D : Access →
      Bool) →
      (r : Rule) (x : Access) → Node base D r x → (right : ℕ → Bool) →
      ((i : ℕ) → i < k → right i ≡ right_in base (truth base (ms i)) (ms i) r x) →
      (P : Bits) → Before base D P (ms 0) →
      (i : ℕ) → i < k → made r ms right (P r x) i ≡ truth base (ms i) r x
  word_right s k ms w D r x n right e P b zero h =
      ap (λ (v : Bool). gate P (ms 0) r x && sense r.operator v) (e 0 h)
      ∙ sym (now-law base s D P (ms 0) b r x n)
  word_right s k ms w D r x n right e P b (suc i) h =
      let T = truth base (ms i) in
      let c = before_next base D T (ms i) (ms (suc i)) (w.rising i h) (w.between i h) (λ r x n. refl) in
      let was = word_right s k ms w D r x n right e P b i (omega arith) in
      ap (λ (v : Bool). (in_interval r.interval (ms (suc i))
      && (not (lasting r.operator) || eqb (ms (suc i)) r.interval.start || v))
      && sense r.operator (right (suc i))) was
      ∙ ap (λ (v : Bool). gate T (ms (suc i)) r x && sense r.operator v) (e (suc i) h)
      ∙ sym (now-law base s D T (ms (suc i)) c r x n)
