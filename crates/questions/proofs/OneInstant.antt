-- One instant: what the rules derive then is what they make of it and of what they derived at the instant
-- before (`now-law`).
use mathlib.Core.Path.{◌≡◌, sym, ap, ◌∙◌, subst}
use Prim.Native.Nat.{ℕ, suc, ◌-◌, ◌≤◌}
use native.Mathlib.Omega.{arith}
use mathlib.Core.Bool.{Bool, true, false, not, ◌&&◌, ◌||◌}
use lib.Dec.{eqb}
use Rattle.foundation.specs.Tests.{cases, true_eq, false_eq, or_true}
use Rattle.foundation.specs.Lists.{Mem}
use Rattle.foundation.specs.Intervals.{in_interval, in_interval_in, in_interval-true, always}
use Rattle.model.specs.declared.Rule.{Rule}
use Rattle.model.specs.declared.Operator.{Operator}
use Rattle.model.specs.declared.Access.{Access}
use Rattle.model.specs.declared.Pattern.{Pattern}
use Rattle.model.specs.Base.{Base}
use Rattle.model.specs.Stratification.{stratified, lasting}
use Rattle.model.specs.Rules.{Fact, stands_for, right_of, right_holds, operate, holds_by, holds}
use Rattle.model.proofs.RightFacts.{right_cong}
use Rattle.model.specs.Rules.{holding}
use Rattle.model.proofs.HoldsLaws.{holds-law, derived-law}
use Rattle.questions.proofs.OperatorSteps.{sense, operate-first, operate-step}
use Rattle.questions.specs.Table.{Bits, truth}

-- ---- tables

-- the table as a set of facts, the same at every instant
abbrev pub as_facts : Bits → Fact → Bool
as_facts X x = X x.rule x.access

-- P is what was derived at the instant before: the rule derives now, if its right side is as the operator
-- wants
abbrev pub gate : Bits → ℕ → Bits
gate P t r x = in_interval r.interval t && (not (lasting r.operator) || eqb t r.interval.start
    || P r x)

module _ (base : Base) where
  -- what holds at t, X saying what is derived then
  abbrev pub held_in : Bits → ℕ → Pattern → Bool
  held_in X t p = holds_by always base (as_facts X) t p

  -- whether the rule's right side counts as held
  abbrev pub right_in : Bits → ℕ → Rule → Access → Bool
  right_in X t r x = right_holds (held_in X t) (held_in X t) (right_of r x)

  -- the rule derives its left side now, X saying what is derived now and P what was at the instant before
  abbrev pub snap : Bits → ℕ → Bits → Bits
  snap P t X r x = gate P t r x && sense r.operator (right_in X t r x)

-- ---- the bits that count: those at the accesses of D, of rules that stand for the access

abbrev pub Node : Base → (Access → Bool) → Rule → Access → Type 0
Node base D r x = Mem r base.rules × (D x ≡ true) × (stands_for base r x ≡ true)

module _ (base : Base) (D : Access → Bool) where
  -- P is right about the instant before t, as far as operators look back to it
  abbrev pub Before : Bits → ℕ → Type 0
  Before P t = (r : Rule) (x : Access) → Node base D r x → lasting r.operator ≡ true →
      (u : ℕ) → suc u ≡ t → r.interval.start ≤ u → P r x ≡ truth base u r x

  -- X is right about t
  abbrev pub Right : ℕ → Bits → Type 0
  Right t X = (r : Rule) (x : Access) → Node base D r x → X r x ≡ truth base t r x

-- ---- now

-- at the rule's start the gate does not look at what was
pub gate-first : (P : Bits) (t : ℕ) (r : Rule) (x : Access) → eqb t r.interval.start ≡ true →
    not (lasting r.operator) || eqb t r.interval.start || P r x ≡ true
gate-first P t r x e = rw (e, or_true (not (lasting r.operator)))

-- behind the rule's start there is an instant before, and the rule has it
pub instant-before : (r : Rule) (t : ℕ) → in_interval r.interval t ≡ true →
    eqb t r.interval.start ≡ false →
    (suc (t - 1) ≡ t) × (r.interval.start ≤ t - 1) × (in_interval r.interval (t - 1) ≡ true)
instant-before r t i e =
    let d = false_eq t r.interval.start e in
    let w = in_interval-true r.interval t i in
    (omega arith, omega arith, in_interval_in r.interval (t - 1) (omega arith) (omega arith))

module _ (base : Base) where
  -- read off what is derived, the right side is as it is
  pub right_truth : (t : ℕ) (r : Rule) (x : Access) →
      right_in base (truth base t) t r x ≡ holding base t (right_of r x)
  right_truth t r x =
      let X = truth base t in
      let all : Pattern → Bool = holds always base t in
      right_cong (held_in base X t) all (held_in base X t) all (right_of r x)
      (λ p e. sym (holds-law base t p)) (λ p e. sym (holds-law base t p))

  module _ (s : stratified base.rules ≡ true) (D : Access → Bool) (P : Bits) (t : ℕ)
      (before : Before base D P t) (r : Rule) (x : Access) (n : Node base D r x) where
    abbrev o : Operator
    o = r.operator

    -- the right side, instant by instant, and what the operator allows
    abbrev right : ℕ → Bool
    right u = holding base u (right_of r x)

    abbrev allowed : ℕ → Bool
    allowed u = operate always r.operator right right r.interval.start u

    abbrev was : Bool
    was = not (lasting r.operator) || eqb t r.interval.start || P r x

    -- behind the rule's start the table P says what the operator allowed at the instant before, if it looks
    -- back
    looked : in_interval r.interval t ≡ true → eqb t r.interval.start ≡ false → (u : ℕ) → suc u ≡ t →
        not (lasting r.operator) || allowed u ≡ was
    looked i e u q =
        let w = instant-before r t i e in
        let v : u ≡ t - 1 = omega arith in
        let inside : in_interval r.interval u ≡ true =
        subst (λ (v : ℕ). in_interval r.interval v ≡ true) (sym v) w.2 in
        cases (lasting o)
        (λ f. let p : P r x ≡ allowed u = before r x n f u q (omega (arith, w.1))
        ∙ derived-law base s r n.0 x u ∙ rw inside in
        rw (f, e, p))
        (λ f. rw f)

    later : in_interval r.interval t ≡ true → eqb t r.interval.start ≡ false → (u : ℕ) → suc u ≡ t →
        allowed (suc u) ≡ was && sense r.operator (right (suc u))
    later i e u q =
        operate-step o right r.interval.start u (omega (arith, (instant-before r t i e).1))
        ∙ ap (λ (b : Bool). b && sense o (right (suc u))) (looked i e u q)

    inner : in_interval r.interval t ≡ true → allowed t ≡ was && sense r.operator (right t)
    inner i = cases (eqb t r.interval.start)
        (λ e. rw (gate-first P t r x e)
        (subst (λ (v : ℕ). allowed v ≡ sense o (right v)) (sym (true_eq t r.interval.start e))
        (operate-first o right r.interval.start)))
        (λ e. let q = (instant-before r t i e).0 in
        subst (λ (v : ℕ). allowed v ≡ was && sense o (right v)) q (later i e (t - 1) q))

    -- what is derived now is what the rules make of it and of what was derived before
    pub now-law : truth base t r x ≡ snap base P t (truth base t) r x
    now-law = derived-law base s r n.0 x t
        ∙ cases (in_interval r.interval t) (λ i. rw i (inner i)) (λ i. rw i)
        ∙ ap (λ (b : Bool). gate P t r x && sense o b) (sym (right_truth t r x))
