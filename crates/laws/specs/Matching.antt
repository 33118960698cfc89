-- Two bases that agree on some accesses, from some instant on (`Matched`, `Alike`), and one step from one to
-- the other: what a rule derives in the one, the same rule derives in the other, if there is no less to
-- derive it from (`held_more`, `carried`).
use Rattle.std.specs.Prelude.{◌≡◌, ℕ, ◌≤◌, Bool, true, ◌&&◌}
use Rattle.std.proofs.Common.{sym, ap, ap₂, ◌∙◌, subst, arith}
use Rattle.std.specs.Bool.{beq}
use Rattle.foundation.specs.Tests.{and-true, and_intro, or_cases, or_intro_left, or_true_right}
use Rattle.foundation.specs.Lists.{anyb, Mem, any_mem, mem_any}
use Rattle.foundation.specs.Intervals.{in_interval, in_interval-true, always}
use Rattle.model.specs.declared.Rule.{Rule}
use Rattle.model.specs.declared.Access.{Access}
use Rattle.model.specs.declared.Pattern.{Pattern}
use Rattle.model.specs.Base.{Base}
use Rattle.model.specs.Support.{live}
use Rattle.model.specs.Stratification.{lasting, stratified}
use Rattle.model.specs.Rules.{Fact, fact, fits, fits_grantor, stands_for, derives_for, right_of, operate, holds_by}
use Rattle.model.specs.Rules.{right_by, derives, holds}
use Rattle.model.proofs.SideFacts.{derives_is}
use Rattle.model.specs.Rules.{derived, holding}
use Rattle.model.proofs.HoldsLaws.{holds-law, derived-law}
use Rattle.laws.specs.Dependence.{Relabelled, right_relabelled, Depends, DependsBelow}
use Rattle.laws.specs.Dependence.{depends_relabelled, right_carry}
use Rattle.laws.specs.Dependence.{right_alike, operate_carry}

-- an authorization fits p at t
abbrev pub direct : Base → ℕ → Pattern → Bool
direct b t p = anyb (fits p) (live t b.authorizations)

-- they end together
pub late_relabelled : (h : ℕ) (r s : Rule) → Relabelled r s → h ≤ r.interval.end → h ≤ s.interval.end
late_relabelled h r s e l = subst (λ (z : Rule). h ≤ z.interval.end) e l

-- ---- what a rule derives, its right side being looked at in all that holds, under whatever label

module _ (B : Base) (s_b : stratified B.rules ≡ true) where
  abbrev law : Rule → Pattern → ℕ → Bool
  law z p t = in_interval z.interval t
      && operate always z.operator (λ u. holding B u p) (λ u. holding B u p) z.interval.start t

  relabelled_law : (r s : Rule) → Relabelled r s → Mem s B.rules → (x : Access) (t : ℕ) →
      derived B (fact s x t) ≡ law r (right_of r x) t
  relabelled_law r s e m x t = derived-law B s_b s m x t
      ∙ ap₂ (λ (z : Rule) (p : Pattern). law z p t) (sym e) (right_relabelled s r (sym e) x)

  -- a rule that derives something at h or after has not ended before h
  pub ongoing : (s : Rule) → Mem s B.rules → (x : Access) (h t : ℕ) → h ≤ t →
      derived B (fact s x t) ≡ true → h ≤ s.interval.end
  ongoing s m x h t l e =
      let v = operate always s.operator (λ u. holding B u (right_of s x)) (λ u. holding B u (right_of s x))
      s.interval.start t in
      let i = (and-true (in_interval s.interval t) v (sym (derived-law B s_b s m x t) ∙ e)).0 in
      let w = in_interval-true s.interval t i in
      omega (arith, w.1)

-- ---- agreement

module _ (D : Access → Bool) where
  -- the same rule in A and B, which stands for an access of D in both
  pub record RelabelledFor (A B : Base) (r s : Rule) (x : Access) : Type 0 where
    pub first : Mem r A.rules
    pub second : Mem s B.rules
    pub relabelled : Relabelled r s
    pub inside : D x ≡ true
    pub first-stands : stands_for A r x ≡ true
    pub second_stands : stands_for B s x ≡ true

  pub swap : (A B : Base) (r s : Rule) (x : Access) → RelabelledFor A B r s x → RelabelledFor B A s r x
  swap A B r s x w = record {
    first = w.second;
    second = w.first;
    relabelled = sym w.relabelled;
    inside = w.inside;
    first-stands = w.second_stands;
    second_stands = w.first-stands;
  }

module _ (D : Access → Bool) (h : ℕ) where
  -- a rule of the base that stands for an access of D and did not end before h
  pub record StandsInside (b : Base) (r : Rule) (x : Access) : Type 0 where
    pub listed : Mem r b.rules
    pub inside : D x ≡ true
    pub stands : stands_for b r x ≡ true
    pub late : h ≤ r.interval.end

  -- every such rule of A is in B, under this label or another, and stands for the access there
  abbrev pub Matched : Base → Base → Type 0
  Matched A B = (r : Rule) (x : Access) → StandsInside A r x →
      (s : Rule) × Mem s B.rules × Relabelled r s × (stands_for B s x ≡ true)

  -- what such a rule of A looks at is in D, A and B have alike authorizations for it from h on, and the rule
  -- does not look back behind h
  pub record Alike (A B : Base) : Type 0 where
    pub inward : (r : Rule) (x : Access) → StandsInside A r x → D (right_of r x).access ≡ true
    pub lines : (r : Rule) (x : Access) → StandsInside A r x → (p : Pattern) → Depends r x p →
        (t : ℕ) → h ≤ t → direct A t p ≡ direct B t p
    pub fresh : (r : Rule) (x : Access) → StandsInside A r x → lasting r.operator ≡ true →
        h ≤ r.interval.start

  pub stands-inside : (A B : Base) (r s : Rule) (x : Access) → RelabelledFor D A B r s x →
      h ≤ r.interval.end → StandsInside A r x
  stands-inside A B r s x w l = record {
    listed = w.first;
    inside = w.inside;
    stands = w.first-stands;
    late = l;
  }

  -- where rules match both ways, what A is to B, B is to A
  pub alike_swap : (A B : Base) → Matched B A → Alike A B → Alike B A
  alike_swap A B back g = record {
    inward = λ s x w. let v = back s x w in
        ap (λ (p : Pattern). D p.access) (right_relabelled s v.0 v.2 x) ∙ g.inward v.0 x
        (relabelled s x w);
    lines = λ s x w p k t l. let v = back s x w in
        sym (g.lines v.0 x (relabelled s x w) p (depends_relabelled s x p v.0 v.2 k) t l);
    fresh = λ s x w o. let v = back s x w in
        subst (λ (z : Rule). h ≤ z.interval.start) (sym v.2)
        (g.fresh v.0 x (relabelled s x w) (ap (λ (z : Rule). lasting z.operator) (sym v.2) ∙ o));
  }
    where
      relabelled : (s : Rule) (x : Access) (w : StandsInside B s x) → StandsInside A (back s x w).0 x
      relabelled s x w = let v = back s x w in record {
        listed = v.1;
        inside = w.inside;
        stands = v.3;
        late = late_relabelled h s v.0 v.2 w.late;
      }

  -- ---- for a rule of A that derives for p the same rule of B does

  module _ (A B : Base) (match : Matched A B) (p : Pattern) (d : D p.access ≡ true) where
    relabelled_derives : (r : Rule) → Mem r A.rules → derives_for A p r ≡ true → h ≤ r.interval.end →
        (s : Rule) × RelabelledFor D A B r s p.access × (derives_for B p s ≡ true)
    relabelled_derives r m e l =
        let w = (derives_is A p r).0 e in
        let v = match r p.access (record { listed = m; inside = d; stands = w.0; late = l }) in
        let s = v.0 in (
          s,
          record {
            first = m;
            second = v.1;
            relabelled = v.2;
            inside = d;
            first-stands = w.0;
            second_stands = v.3;
          },
          (derives_is B p s).1 (
            v.3,
            ap (λ (z : Rule). beq z.left.negative p.negative) (sym v.2) ∙ w.1,
            ap (λ (z : Rule). fits_grantor p.grantor z.author) (sym v.2) ∙ w.2,
            w.3,
          ),
        )

    -- so what holds of p by facts that B derives by the same rules holds of p in B
    pub held_more : (S : Fact → Bool) (t : ℕ) → direct A t p ≡ direct B t p →
        ((r s : Rule) → RelabelledFor D A B r s p.access → derives_for A p r ≡ true → derives_for B p s
        ≡ true →
        S (fact r p.access t) ≡ true → derived B (fact s p.access t) ≡ true) →
        ((r : Rule) → Mem r A.rules → S (fact r p.access t) ≡ true → h ≤ r.interval.end) →
        holds_by always A S t p ≡ true → holds always B t p ≡ true
    held_more S t q f late e =
        let y = p.access in
        let in_a : Rule → Bool = λ r. derives_for A p r && S (fact r y t) in
        let in_b : Rule → Bool = λ s. derives_for B p s && derived B (fact s y t) in
        holds-law B t p ∙ or_cases (direct A t p) (anyb in_a A.rules) e
        (λ a. or_intro_left (direct B t p) (anyb in_b B.rules) (sym q ∙ a))
        (λ a. let m = any_mem in_a A.rules a in
        let r = m.0 in
        let w = and-true (derives_for A p r) (S (fact r y t)) m.2 in
        let v = relabelled_derives r m.1 w.0 (late r m.1 w.1) in
        let s = v.0 in
        or_true_right (direct B t p) (anyb in_b B.rules) (mem_any in_b B.rules s v.1.second
        (and_intro (derives_for B p s) (derived B (fact s y t)) v.2 (f r s v.1 w.0 v.2 w.1))))

  -- ---- one step: what a rule of A derives by facts that B has, the same rule derives in B

  module _ (A B : Base) (s_b : stratified B.rules ≡ true) (lower S : Fact → Bool)
      (r s : Rule) (x : Access) (w : RelabelledFor D A B r s x) (t : ℕ) (l : h ≤ t) where
    pub carried : (lasting r.operator ≡ true → h ≤ r.interval.start) →
        ((p : Pattern) → Depends r x p → (u : ℕ) → h ≤ u →
        holds_by always A S u p ≡ true → holds always B u p ≡ true) →
        ((p : Pattern) → DependsBelow r x p → (u : ℕ) → h ≤ u →
        holds_by always A lower u p ≡ holds always B u p) →
        derives always A lower S (fact r x t) ≡ true → derived B (fact s x t) ≡ true
    carried fresh more exact e =
        let o = r.operator in
        let a = r.interval.start in
        let p = right_of r x in
        let f = right_by always A lower S p in
        let g = right_by always A lower lower p in
        let H : ℕ → Bool = λ u. holding B u p in
        let v = and-true (in_interval r.interval t) (operate always o f g a t) e in
        relabelled_law B s_b r s w.relabelled w.second x t
        ∙ and_intro (in_interval r.interval t) (operate always o H H a t) v.0
        (operate_carry o f H g H h a t l fresh
        (λ u k. right_carry r x (holds_by always A S u) (holds always B u) (holds_by always A lower u)
        (holds always B u) (λ p e. more p e u k) (λ p e. exact p e u k))
        (λ n u k. right_alike r x (holds_by always A lower u) (holds always B u) n (λ p e. exact p e u k))
        v.1)
