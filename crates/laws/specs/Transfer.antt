-- Two bases that agree on some accesses, from some instant on: their rules derive the same for these accesses
-- from then on, and the same holds of them, whatever else the bases have and whatever strata their rules are
-- of (`holds-alike`).
use Rattle.std.specs.Prelude.{◌≡◌, Bool, true, ltb, eqb}
use Rattle.std.proofs.Math.Path.{sym, ap, subst}
use Rattle.std.proofs.Common.{◌∙◌}
use Prim.Native.Nat.{ℕ, zero, suc, ◌*◌, ◌≤◌, ◌<◌}
use native.Mathlib.Omega.{arith}
use Rattle.std.proofs.Math.ListN.{length}
use Rattle.foundation.specs.Tests.{cases, agree, true-le, false-le, true_eq, and-true}
use Rattle.foundation.specs.Lists.{Mem}
use Rattle.foundation.specs.Closure.{iter}
use Rattle.foundation.specs.Intervals.{always}
use Rattle.model.specs.declared.Rule.{Rule}
use Rattle.model.specs.declared.Access.{Access}
use Rattle.model.specs.declared.Pattern.{Pattern}
use Rattle.model.specs.Base.{Base}
use Rattle.model.specs.Stratification.{stratified, stratum}
use Rattle.model.proofs.StratificationFacts.{feeder_not-above, feeder_below, stratum-few}
use Rattle.model.specs.Rules.{fact, derives_for, holds_by, derives, enough, derived_below, holds}
use Rattle.model.proofs.HoldsFacts.{below-stratum, rounds, rounds-below}
use Rattle.model.specs.Rules.{derived}
use Rattle.model.proofs.HoldsLaws.{holds-law, settled_at, strictly_settled}
use Rattle.laws.specs.Dependence.{DependsBelow, depends_access}
use Rattle.laws.specs.Dependence.{below_depends, depends_fed, depends_strictly}
use Rattle.laws.specs.Dependence.{depends_relabelled, below_relabelled}
use Rattle.laws.specs.Matching.{direct, StandsInside, Matched, Alike, RelabelledFor, swap}
use Rattle.laws.specs.Matching.{stands-inside, late_relabelled}
use Rattle.laws.specs.Matching.{alike_swap, ongoing, held_more, carried}

-- what a round of a stratum derives is derived at last
round-derived : (b : Base) (k : ℕ) → k ≤ 2 * length b.rules → (i : ℕ) → i ≤ enough always b →
    (r : Rule) → Mem r b.rules → (x : Access) (t : ℕ) → rounds b k i (fact r x t) ≡ true →
    derived b (fact r x t) ≡ true
round-derived b k few i j r m x t e =
    let y = fact r x t in
    let d = rounds-below b k i j y e in
    settled_at b (suc k) y m (below-stratum b (suc k) y d) (omega arith) ∙ d

module _ (D : Access → Bool) (h : ℕ) (A B : Base)
    (s_a : stratified A.rules ≡ true) (s_b : stratified B.rules ≡ true)
    (forth : Matched D h A B) (back : Matched D h B A) (alike : Alike D h A B) where
  -- a rule of A with a stratum below k and the same rule of B derive the same
  abbrev Same : ℕ → Type 0
  Same k = (r s : Rule) (x : Access) → RelabelledFor D A B r s x → stratum A.rules r < k →
      (t : ℕ) → h ≤ t → derived A (fact r x t) ≡ derived B (fact s x t)

  module _ (k : ℕ) (known : Same k) where
    -- what only lower strata of A derive holds alike
    module _ (p : Pattern) (d : D p.access ≡ true)
        (low : (r : Rule) → Mem r A.rules → derives_for A p r ≡ true → stratum A.rules r < k)
        (t : ℕ) (l : h ≤ t) (q : direct A t p ≡ direct B t p) where
      settled_same : holds always A t p ≡ holds always B t p
      settled_same = agree (holds always A t p) (holds always B t p)
          (λ e. held_more D h A B forth p d (derived A) t q
          (λ r s w f g a. sym (known r s p.access w (low r w.first f) t l) ∙ a)
          (λ r m a. ongoing A s_a r m p.access h t l a)
          (sym (holds-law A t p) ∙ e))
          (λ e. held_more D h B A back p d (derived B) t (sym q)
          (λ s r w f g a. known r s p.access (swap D B A s r p.access w) (low r w.second g) t l ∙ a)
          (λ s m a. ongoing B s_b s m p.access h t l a)
          (sym (holds-law B t p) ∙ e))

    -- so does what a rule of A's stratum k looks at below it
    below_same : (r : Rule) (x : Access) → StandsInside D h A r x → stratum A.rules r ≡ k →
        (p : Pattern) → DependsBelow r x p → (u : ℕ) → h ≤ u → holds always A u p ≡ holds always B u p
    below_same r x w level p e u i =
        let n = below_depends r x p e in
        settled_same p (ap D (depends_access r x p n) ∙ alike.inward r x w)
        (λ q m f. let z = depends_strictly r x p A e q f in
        omega (arith, feeder_below A.rules s_a q r m w.listed z.0 z.1))
        u i (alike.lines r x w p n u i)

    -- ---- what A's stratum k derives, B derives

    module _ (few : k ≤ 2 * length A.rules) where
      lower_carried : (r s : Rule) (x : Access) → RelabelledFor D A B r s x → (t : ℕ) → h ≤ t →
          derived_below always A k (fact r x t) ≡ true → derived B (fact s x t) ≡ true
      lower_carried r s x w t l e =
          let v = below-stratum A k (fact r x t) e in
          sym (known r s x w v t l) ∙ settled_at A k (fact r x t) w.first v (omega arith) ∙ e

      found : (i : ℕ) → i ≤ enough always A → (r s : Rule) (x : Access) → RelabelledFor D A B r s x →
          (t : ℕ) → h ≤ t → rounds A k i (fact r x t) ≡ true → derived B (fact s x t) ≡ true
      unfolding iter
      found zero j r s x w t l e = lower_carried r s x w t l e
      found (suc i) j r s x w t l e = cases (ltb (stratum A.rules r) k)
          (λ y. lower_carried r s x w t l (rw y at e))
          (λ y.
          let v = stratum A.rules r in
          let L = derived_below always A k in
          let S = rounds A k i in
          let f = and-true (eqb v k) (derives always A L S (fact r x t)) (rw y at e) in
          let level : v ≡ k = true_eq v k f.0 in
          let d = round-derived A k few (suc i) j r w.first x t e in
          let z = stands-inside D h A B r s x w (ongoing A s_a r w.first x h t l d) in
          carried D h A B s_b L S r s x w t l (alike.fresh r x z)
          (λ p n u c.
          let d = ap D (depends_access r x p n) ∙ alike.inward r x z in
          held_more D h A B forth p d S u (alike.lines r x z p n u c)
          (λ r' s' w' a b. found i (omega arith) r' s' p.access w' u c)
          (λ r' m' a. ongoing A s_a r' m' p.access h u c
          (round-derived A k few i (omega arith) r' m' p.access u a)))
          (λ p n u c. subst (λ (i : ℕ). holds_by always A (derived_below always A i) u p ≡ holds always A u p)
          level (strictly_settled A s_a r w.first u p (depends_strictly r x p A n))
          ∙ below_same r x z level p n u c)
          f.1)

    -- ---- and back: stratum by stratum of B, what rules of A's stratum k derive in B, they derive in A

    abbrev Returned : ℕ → Type 0
    Returned j = (r s : Rule) (x : Access) → RelabelledFor D A B r s x → stratum A.rules r ≤ k →
        stratum B.rules s < j → (t : ℕ) → h ≤ t →
        derived B (fact s x t) ≡ true → derived A (fact r x t) ≡ true

    module _ (j : ℕ) (few : j ≤ 2 * length B.rules) (had : Returned j) where
      lower-back : (r s : Rule) (x : Access) → RelabelledFor D A B r s x → stratum A.rules r ≤ k →
          (t : ℕ) → h ≤ t → derived_below always B j (fact s x t) ≡ true → derived A (fact r x t) ≡ true
      lower-back r s x w v t l e =
          let c = below-stratum B j (fact s x t) e in
          had r s x w v c t l (settled_at B j (fact s x t) w.second c (omega arith) ∙ e)

      returns : (i : ℕ) → i ≤ enough always B → (r s : Rule) (x : Access) → RelabelledFor D A B r s x →
          stratum A.rules r ≤ k → (t : ℕ) → h ≤ t → rounds B j i (fact s x t) ≡ true →
          derived A (fact r x t) ≡ true
      unfolding iter
      returns zero c r s x w v t l e = lower-back r s x w v t l e
      returns (suc i) c r s x w v t l e = cases (ltb (stratum B.rules s) j)
          (λ y. lower-back r s x w v t l (rw y at e))
          (λ y. cases (ltb (stratum A.rules r) k)
          (λ z. known r s x w (true-le (suc (stratum A.rules r)) k z) t l
          ∙ round-derived B j few (suc i) c s w.second x t e)
          (λ z.
          let top = false-le (suc (stratum A.rules r)) k z in
          let level : stratum A.rules r ≡ k = omega arith in
          let g = stratum B.rules s in
          let L = derived_below always B j in
          let S = rounds B j i in
          let f = and-true (eqb g j) (derives always B L S (fact s x t)) (rw y at e) in
          let here : g ≡ j = true_eq g j f.0 in
          let back-pair = swap D A B r s x w in
          let d = round-derived B j few (suc i) c s w.second x t e in
          let late = ongoing B s_b s w.second x h t l d in
          let bs = stands-inside D h B A s r x back-pair late in
          let br = stands-inside D h A B r s x w (late_relabelled h s r (sym w.relabelled) late) in
          let other = alike_swap D h A B back alike in
          carried D h B A s_a L S s r x back-pair t l (other.fresh s x bs)
          (λ p n u q.
          let d = ap D (depends_access s x p n) ∙ other.inward s x bs in
          held_more D h B A back p d S u (other.lines s x bs p n u q)
          (λ s' r' w' a b. returns i (omega arith) r' s' p.access (swap D B A s' r' p.access w')
          (omega (
            arith,
            feeder_not-above A.rules s_a r' r w'.second w.first
                (depends_fed r x p A (depends_relabelled s x p r (sym w.relabelled) n) r' b),
          )) u q)
          (λ s' m' a. ongoing B s_b s' m' p.access h u q
          (round-derived B j few i (omega arith) s' m' p.access u a)))
          (λ p n u q. subst (λ (i : ℕ). holds_by always B (derived_below always B i) u p ≡ holds always B u p)
          here (strictly_settled B s_b s w.second u p (depends_strictly s x p B n))
          ∙ sym (below_same r x br level p (below_relabelled s x p r (sym w.relabelled) n) u q))
          f.1))

      returned_on : Returned (suc j)
      unfolding derived_below
      returned_on r s x w v c t l e = returns (enough always B) (omega arith) r s x w v t l
          (sym (settled_at B (suc j) (fact s x t) w.second c (omega arith)) ∙ e)

    returned : (j : ℕ) → j ≤ suc (2 * length B.rules) → Returned j
    returned zero c = λ r s x w v f t l e. absurd (omega arith)
    returned (suc j) c = returned_on j (omega arith) (returned j (omega arith))

    same_on : k ≤ 2 * length A.rules → Same (suc k)
    unfolding derived_below
    same_on few r s x w v t l = agree (derived A (fact r x t)) (derived B (fact s x t))
        (λ e. found few (enough always A) (omega arith) r s x w t l
        (sym (settled_at A (suc k) (fact r x t) w.first v (omega arith)) ∙ e))
        (λ e. returned (suc (2 * length B.rules)) (omega arith) r s x w (omega arith)
        (omega (arith, stratum-few B.rules s_b s w.second)) t l e)

  same : (k : ℕ) → k ≤ suc (2 * length A.rules) → Same k
  same zero c = λ r s x w v t l. absurd (omega arith)
  same (suc k) c = same_on k (same k (omega arith)) (omega arith)

  -- the same holds of an access of D, from h on, where A and B have alike authorizations for what is asked
  pub holds_alike : (t : ℕ) → h ≤ t → (p : Pattern) → D p.access ≡ true → direct A t p ≡ direct B t p →
      holds always A t p ≡ holds always B t p
  holds_alike t l p d q =
      let n = suc (2 * length A.rules) in
      settled_same n (same n (omega arith)) p d
      (λ r m e. omega (arith, stratum-few A.rules s_a r m)) t l q
