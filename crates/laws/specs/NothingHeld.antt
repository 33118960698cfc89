-- Where no authorization covers an instant and no rule negates, nothing is held at it (`nothing-held`), and
-- MAY says no (`nothing-may`): rules hand on what is held, and only those that negate start from nothing.
use Rattle.std.specs.Prelude.{◌≡◌, true, false, ℕ, zero, suc}
use Rattle.std.proofs.Common.{sym, ap, ◌∙◌, true≢false, arith}
use Rattle.foundation.specs.Tests.{cases, and-true, true-le}
use Rattle.foundation.specs.Lists.{Mem}
use Rattle.foundation.specs.Intervals.{in_interval}
use Rattle.model.specs.declared.Access.{Access}
use Rattle.model.specs.declared.Authorization.{Authorization}
use Rattle.model.specs.declared.Rule.{Rule}
use Rattle.model.specs.Base.{Base}
use Rattle.model.specs.Stratification.{negating, negates, stratified}
use Rattle.model.specs.declared.Pattern.{Pattern}
use Rattle.model.specs.Rules.{asked, may}
use Rattle.model.specs.Held.{HeldUpTo, HeldBelow, Held, lower, whenever, as_long_as, whenever_not}
use Rattle.model.specs.Held.{unless}
use Rattle.model.proofs.HeldFacts.{may-held}

module _ (b : Base) (t : ℕ)
    (uncovered : (a : Authorization) → Mem a b.authorizations → in_interval a.interval t ≡ false)
    (positive : (r : Rule) → Mem r b.rules → negates r ≡ false) where
  not-up_to : (k : ℕ) → ((p : Pattern) → HeldBelow b k t p → ⊥) → (p : Pattern) →
      HeldUpTo b k (HeldBelow b k) t p → ⊥
  not-up_to k below p (lower h) = below p h
  not-up_to k below p (whenever r a h u) = not-up_to k below _ h
  not-up_to k below p (as_long_as r a h u) = not-up_to k below _
      (h t (true-le _ _ (and-true _ _ a.inside).0) (omega arith))
  not-up_to k below p (whenever_not r a h) =
      true≢false (sym (ap negating a.operator) ∙ positive r a.listed)
  not-up_to k below p (unless r a h) = true≢false (sym (ap negating a.operator) ∙ positive r a.listed)

  not-below : (k : ℕ) (p : Pattern) → HeldBelow b k t p → ⊥
  not-below zero p h = true≢false (sym h.covers ∙ uncovered h.authorization h.listed)
  not-below (suc k) p h = not-up_to k (not-below k) p h

  pub nothing-held : (p : Pattern) → Held b t p → ⊥
  nothing-held p h = not-below h.0 p h.1

  pub nothing-may : stratified b.rules ≡ true → (x : Access) → may b x t ≡ false
  nothing-may s x = cases (may b x t)
      (λ e. absurd (nothing-held (asked x false) ((may-held b s x t).0 e).0))
      (λ e. e)
