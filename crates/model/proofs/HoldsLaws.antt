-- What rules derive and what holds, with no strata in the statements: `derived-law` and `holds-law`.
use Rattle.std.specs.Prelude.{◌≡◌, ℕ, zero, suc, ◌*◌, ◌≤◌, ◌<◌, Bool, true, false, not, ◌&&◌, ◌||◌, leb, length}
use Rattle.std.proofs.Math.Path.{refl}
use Rattle.std.proofs.Common.{sym, ap, ◌∙◌, arith}
use Rattle.foundation.specs.Tests.{cases, le-true, le-false, true-le, false-le, eq_true}
use Rattle.foundation.specs.Lists.{anyb, Mem, any_cong_mem}
use Rattle.foundation.specs.Intervals.{in_interval, always, always_cong}
use Rattle.model.specs.declared.Rule.{Rule}
use Rattle.model.specs.declared.Operator.{Operator}
use Rattle.model.specs.declared.Operator.TheVariants.{Whenever, AsLongAs, WheneverNot, Unless}
use Rattle.model.specs.declared.Access.{Access}
use Rattle.model.specs.Base.{Base}
use Rattle.model.specs.Support.{live}
use Rattle.model.specs.Stratification.{precedes, negating, stratified, stratum}
use Rattle.model.proofs.FeedingLaws.{feeds-precedes}
use Rattle.model.proofs.FeedingLaws.{links-precedes, negates-heavy, links-heavy}
use Rattle.model.specs.Rules.{Pattern, Fact, fact, fits, derives_for, right_of, right_holds, operate}
use Rattle.model.specs.Rules.{asked, holds_by, derives, derived_below, holds}
use Rattle.model.proofs.SideFacts.{fit_feeds, fit_links}
use Rattle.model.proofs.RightFacts.{right_own}
use Rattle.model.proofs.HoldsSteady.{below}
use Rattle.model.proofs.HoldsFacts.{closed}
use Rattle.model.proofs.StratificationFacts.{feeder_not-above, feeder_below, stratum-few}
use Rattle.model.specs.Rules.{derived, holding}
use Rattle.model.specs.Rules.{PrecededOnly, StrictlyFed}

-- what fits a rule's right side is derived by a rule that it looks at
pub fit_precedes : (base : Base) (q r : Rule) (x : Access) → derives_for base (right_of r x) q ≡ true →
    precedes q r ≡ true
fit_precedes base q r x e = feeds-precedes q r (fit_feeds base q r x e)

-- each step to a rule with WHENEVERNOT or UNLESS counts
pub strictly_fed : (base : Base) (r : Rule) → negating r.operator ≡ true → (p : Pattern) →
    PrecededOnly base r p →
    StrictlyFed base r p
strictly_fed base r g p h q e = (h q e, negates-heavy q r g)

-- and each link, by which denials of a positive right side's access are derived
pub strictly_linked : (base : Base) (r : Rule) (x : Access) → r.right.negative ≡ false →
    StrictlyFed base r (asked (right_of r x).access true)
strictly_linked base r x n q e =
    let l = fit_links base q r x n e in
    (links-precedes q r l, links-heavy q r l)

-- A rule's right side looks up to the rule's stratum only at what those derive that the rule looks at, and
-- below it only at what those of them derive whose step counts: where that is settled, `all` being what holds
-- at last, so is the right side.
pub right_settled : (base : Base) (r : Rule) (x : Access) (same lower all : Pattern → Bool) →
    ((p : Pattern) → PrecededOnly base r p → same p ≡ all p) →
    ((p : Pattern) → StrictlyFed base r p → lower p ≡ all p) →
    right_holds same lower (right_of r x) ≡ right_holds all all (right_of r x)
unfolding right_of
right_settled base r x same lower all h k =
    right_own same all lower all (right_of r x) (h (right_of r x) (λ q e. fit_precedes base q r x e))
    (λ n. k (asked (right_of r x).access true) (strictly_linked base r x n))

-- a negating operator looks at its second test, the others at their first
operate_settled : (o : Operator) (f g h : ℕ → Bool) → ((u : ℕ) → f u ≡ h u) →
    (negating o ≡ true → (u : ℕ) → g u ≡ h u) → (a t : ℕ) →
    operate always o f g a t ≡ operate always o h h a t
operate_settled Whenever f g h p q a t = p t
operate_settled AsLongAs f g h p q a t = always_cong a t f h p
operate_settled WheneverNot f g h p q a t = ap not (q refl t)
operate_settled Unless f g h p q a t = always_cong a t (λ u. not (g u)) (λ u. not (h u))
    (λ u. ap not (q refl u))

module _ (base : Base) where
  -- 01: "Held means given by a line or by a rule, denied or not"
  pub holds-law : (t : ℕ) (p : Pattern) → holds always base t p
      ≡ anyb (fits p) (live t base.authorizations)
      || anyb (λ r. derives_for base p r && derived base (fact r p.access t)) base.rules
  unfolding holds
  holds-law t p = refl

  -- ---- stratum by stratum

  below-keep : (k : ℕ) (x : Fact) → Mem x.rule base.rules → stratum base.rules x.rule < k →
      below base (suc k) x ≡ below base k x
  below-keep k x m h = sym (closed base k x m) ∙ rw (le-true (suc (stratum base.rules x.rule)) k h)

  -- what the strata below k have settled stays
  below_upto : (k n : ℕ) (x : Fact) → Mem x.rule base.rules → stratum base.rules x.rule < k →
      k ≤ n → below base n x ≡ below base k x
  below_upto k zero x m h l = absurd (omega arith)
  below_upto k (suc n) x m h l = cases (leb k n)
      (λ e. let i = true-le k n e in below-keep n x m (omega arith) ∙ below_upto k n x m h i)
      (λ e. let i = false-le k n e in let q : suc n ≡ k = omega arith in ap (λ (j : ℕ). below base j x) q)

  -- so what a rule derives is settled with its stratum
  pub settled_at : (k : ℕ) (x : Fact) → Mem x.rule base.rules → stratum base.rules x.rule < k →
      k ≤ suc (2 * length base.rules) → derived base x ≡ derived_below always base k x
  settled_at k x m h l = below_upto k (suc (2 * length base.rules)) x m h l

  -- a stratum is closed under its rules
  pub at_stratum : (k : ℕ) (x : Fact) → Mem x.rule base.rules → stratum base.rules x.rule ≡ k →
      derived_below always base (suc k) x
      ≡ derives always base (derived_below always base k) (derived_below always base (suc k)) x
  at_stratum k x m e =
      let n = stratum base.rules x.rule in
      sym (closed base k x m) ∙ rw (le-false (suc n) k (omega arith), eq_true n k e)

  -- what holds of a pattern rests on what the rules derive that derive for it
  pub holds_fit : (S Q : Fact → Bool) (t : ℕ) (p : Pattern) →
      ((r : Rule) → Mem r base.rules → derives_for base p r ≡ true →
      S (fact r p.access t) ≡ Q (fact r p.access t)) →
      holds_by always base S t p ≡ holds_by always base Q t p
  holds_fit S Q t p h =
      let x : Rule → Fact = λ r. fact r p.access t in
      ap (λ (b : Bool). anyb (fits p) (live t base.authorizations) || b)
      (any_cong_mem (λ r. derives_for base p r && S (x r)) (λ r. derives_for base p r && Q (x r)) base.rules
      (λ r m. cases (derives_for base p r) (λ e. rw e (h r m e)) (λ e. rw e)))

  pub holds_same : (S : Fact → Bool) (t : ℕ) (p : Pattern) →
      ((r : Rule) → Mem r base.rules → derives_for base p r ≡ true →
      derived base (fact r p.access t) ≡ S (fact r p.access t)) →
      holds_by always base S t p ≡ holds always base t p
  holds_same S t p h = holds_fit S (derived base) t p (λ r m e. sym (h r m e)) ∙ sym (holds-law t p)

  module _ (s : stratified base.rules ≡ true) where
    module _ (r : Rule) (m : Mem r base.rules) where
      -- what feeders derive is settled with the rule's stratum
      fed_settled : (u : ℕ) (p : Pattern) → PrecededOnly base r p →
          holds_by always base (below base (suc (stratum base.rules r))) u p ≡ holds always base u p
      fed_settled u p h = holds_same (below base (suc (stratum base.rules r))) u p (λ q k e.
          settled_at (suc (stratum base.rules r)) (fact q p.access u) k
          (omega (arith, feeder_not-above base.rules s q r k m (h q e)))
          (omega (arith, stratum-few base.rules s r m)))

      -- and before it where the steps count
      pub strictly_settled : (u : ℕ) (p : Pattern) → StrictlyFed base r p →
          holds_by always base (below base (stratum base.rules r)) u p ≡ holds always base u p
      strictly_settled u p h = holds_same (below base (stratum base.rules r)) u p (λ q k e.
          let l = h q e in
          settled_at (stratum base.rules r) (fact q p.access u) k
          (feeder_below base.rules s q r k m l.0 l.1)
          (omega (arith, stratum-few base.rules s r m)))

    -- 01, the operators: a rule derives its left side at the instants of its interval where its operator
    -- allows it, the right side being looked at in all that holds, of whatever stratum
    pub derived-law : (r : Rule) → Mem r base.rules → (x : Access) (t : ℕ) →
        derived base (fact r x t)
        ≡ in_interval r.interval t
        && operate always r.operator (λ u. holding base u (right_of r x)) (λ u. holding base u (right_of r x))
        r.interval.start t
    derived-law r m x t =
        let n = stratum base.rules r in
        let p = right_of r x in
        let now : ℕ → Pattern → Bool = holds_by always base (below base (suc n)) in
        let before : ℕ → Pattern → Bool = holds_by always base (below base n) in
        let all : ℕ → Pattern → Bool = holds always base in
        settled_at (suc n) (fact r x t) m (omega arith) (omega (arith, stratum-few base.rules s r m))
        ∙ at_stratum n (fact r x t) m refl
        ∙ ap (λ (b : Bool). in_interval r.interval t && b) (operate_settled r.operator
        (λ u. right_holds (now u) (before u) p) (λ u. right_holds (before u) (before u) p) (λ u. holding base u p)
        (λ u. right_settled base r x (now u) (before u) (all u) (fed_settled r m u) (strictly_settled r m u))
        (λ g u. right_settled base r x (before u) (before u) (all u)
        (λ p h. strictly_settled r m u p (strictly_fed base r g p h)) (strictly_settled r m u))
        r.interval.start t)
