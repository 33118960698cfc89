-- Which patterns a rule looks at for an access (`Depends`), and for which of them at what holds below its
-- stratum (`DependsBelow`). Both are used through their laws: what a right side is read from is said here
-- alone.
use Rattle.std.specs.Prelude.{◌≡◌, refl, ◌⊎◌, ℕ, ◌≤◌, Bool, true, false, not}
use Rattle.std.proofs.Common.{sym, ◌∙◌, arith}
use Rattle.std.proofs.Math.Path.{ap}
use Rattle.std.proofs.Math.Logic.{inl, inr, ⊎_elim}
use Rattle.foundation.specs.Tests.{agree}
use Rattle.foundation.specs.Intervals.{always, always_all, all_always}
use Rattle.model.specs.declared.Rule.{Rule}
use Rattle.model.specs.declared.Operator.{Operator}
use Rattle.model.specs.declared.Operator.TheVariants.{Whenever, AsLongAs, WheneverNot, Unless}
use Rattle.model.specs.declared.Access.{Access}
use Rattle.model.specs.declared.Pattern.{Pattern}
use Rattle.model.specs.Base.{Base}
use Rattle.model.specs.Stratification.{negating, negates, lasting}
use Rattle.model.specs.Stratification.{unlabelled}
use Rattle.model.specs.Rules.{right_of, asked, right_holds, operate}
use Rattle.model.proofs.SideFacts.{right_eq, right_sign}
use Rattle.model.proofs.RightFacts.{right_is}
use Rattle.model.specs.Rules.{PrecededOnly, StrictlyFed}
use Rattle.model.proofs.HoldsLaws.{fit_precedes, strictly_fed, strictly_linked}

-- the same rule, under this label or another
abbrev pub Relabelled : Rule → Rule → Type 0
Relabelled r s = unlabelled r ≡ unlabelled s

-- they look for the same
pub right_relabelled : (r s : Rule) → Relabelled r s → (x : Access) → right_of r x ≡ right_of s x
right_relabelled r s e x =
    let without : (z : Rule) → right_of z x ≡ right_of (unlabelled z) x =
    λ z. right_eq z x ∙ sym (right_eq (unlabelled z) x) in
    without r ∙ ap (λ (z : Rule). right_of z x) e ∙ sym (without s)

-- p asks for denials of the access that r, standing for x, looks for with a positive right side
abbrev Denials : Rule → Access → Pattern → Type 0
Denials r x p = (r.right.negative ≡ false) × (p ≡ asked (right_of r x).access true)

-- r, standing for x, looks at p: at its right side, and at denials of it if that is positive
unfoldable pub Depends : Rule → Access → Pattern → Type 0
Depends r x p = (p ≡ right_of r x) ⊎ Denials r x p

-- and looks at what holds of p below its stratum: a rule with WHENEVERNOT or UNLESS does, and every rule at
-- denials
unfoldable pub DependsBelow : Rule → Access → Pattern → Type 0
DependsBelow r x p = ((negates r ≡ true) × Depends r x p) ⊎ Denials r x p

module _ (r : Rule) (x : Access) (p : Pattern) where
  pub depends_access : Depends r x p → p.access ≡ (right_of r x).access
  unfolding Depends
  depends_access e = ⊎_elim (λ a. ap (λ (q : Pattern). q.access) a)
      (λ d. ap (λ (q : Pattern). q.access) d.1) e

  pub below_depends : DependsBelow r x p → Depends r x p
  unfolding Depends DependsBelow
  below_depends w = ⊎_elim (λ n. n.1) (λ d. inr d) w

  pub negates-below : negates r ≡ true → Depends r x p → DependsBelow r x p
  unfolding DependsBelow
  negates-below g e = inl (g, e)

  denials_strictly : (base : Base) → Denials r x p → StrictlyFed base r p
  denials_strictly base d q f = strictly_linked base r x d.0 q (rw (← d.1) f)

  -- what r looks at is derived by rules that precede it,
  pub depends_fed : (base : Base) → Depends r x p → PrecededOnly base r p
  unfolding Depends
  depends_fed base e q f = ⊎_elim (λ a. fit_precedes base q r x (rw (← a) f))
      (λ d. (denials_strictly base d q f).0) e

  -- and by steps that count where it looks below its stratum
  pub depends_strictly : (base : Base) → DependsBelow r x p → StrictlyFed base r p
  unfolding DependsBelow
  depends_strictly base w = ⊎_elim (λ n. strictly_fed base r n.0 p (depends_fed base n.1))
      (λ d. denials_strictly base d) w

  module _ (s : Rule) (relabelled : Relabelled r s) where
    denials_relabelled : Denials r x p → Denials s x p
    denials_relabelled d = (
      ap (λ (z : Rule). z.right.negative) (sym relabelled) ∙ d.0,
      d.1 ∙ ap (λ (q : Pattern). asked q.access true) (right_relabelled r s relabelled x),
    )

    pub depends_relabelled : Depends r x p → Depends s x p
    unfolding Depends
    depends_relabelled e = ⊎_elim (λ a. inl (a ∙ right_relabelled r s relabelled x))
        (λ d. inr (denials_relabelled d)) e

    pub below_relabelled : DependsBelow r x p → DependsBelow s x p
    unfolding DependsBelow
    below_relabelled w = ⊎_elim (λ n. inl (ap negates (sym relabelled) ∙ n.0, depends_relabelled n.1))
        (λ d. inr (denials_relabelled d)) w

-- where no less holds of what r looks at, and the same of what it looks at below its stratum, its right side
-- counts as held no less
pub right_carry : (r : Rule) (x : Access) (same same' lower lower' : Pattern → Bool) →
    ((p : Pattern) → Depends r x p → same p ≡ true → same' p ≡ true) →
    ((p : Pattern) → DependsBelow r x p → lower p ≡ lower' p) →
    right_holds same lower (right_of r x) ≡ true → right_holds same' lower' (right_of r x) ≡ true
unfolding Depends DependsBelow
right_carry r x same same' lower lower' h k e =
    let p = right_of r x in
    let w = (right_is same lower p).0 e in
    let denied : Pattern = asked p.access true in
    (right_is same' lower' p).1
    (h p (inl refl) w.0, λ n. sym (k denied (inr (sym (right_sign r x) ∙ n, refl))) ∙ w.1 n)

-- a rule with WHENEVERNOT or UNLESS looks only below its stratum: where the same holds there, its right side
-- counts as held alike
pub right_alike : (r : Rule) (x : Access) (lower lower' : Pattern → Bool) → negates r ≡ true →
    ((p : Pattern) → DependsBelow r x p → lower p ≡ lower' p) →
    right_holds lower lower (right_of r x) ≡ right_holds lower' lower' (right_of r x)
right_alike r x lower lower' g k =
    agree (right_holds lower lower (right_of r x)) (right_holds lower' lower' (right_of r x))
    (right_carry r x lower lower' lower lower' (λ p e a. sym (k p (negates-below r x p g e)) ∙ a) k)
    (right_carry r x lower' lower lower' lower (λ p e a. k p (negates-below r x p g e) ∙ a)
    (λ p e. sym (k p e)))

-- what an operator allows, it allows by a right side that is held no less from h on, if it does not look back
-- behind h
pub operate_carry : (o : Operator) (f f' g g' : ℕ → Bool) (h a t : ℕ) → h ≤ t → (lasting o ≡ true → h ≤ a) →
    ((u : ℕ) → h ≤ u → f u ≡ true → f' u ≡ true) →
    (negating o ≡ true → (u : ℕ) → h ≤ u → g u ≡ g' u) →
    operate always o f g a t ≡ true → operate always o f' g' a t ≡ true
operate_carry Whenever f f' g g' h a t l s p q e = p t l e
operate_carry AsLongAs f f' g g' h a t l s p q e =
    let i = s refl in all_always a t f' (λ u j k. p u (omega arith) (always_all a t f e u j k))
operate_carry WheneverNot f f' g g' h a t l s p q e = sym (ap not (q refl t l)) ∙ e
operate_carry Unless f f' g g' h a t l s p q e =
    let i = s refl in
    all_always a t (λ u. not (g' u)) (λ u j k. sym (ap not (q refl u (omega arith)))
    ∙ always_all a t (λ u. not (g u)) e u j k)
