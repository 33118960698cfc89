-- A base narrowed to what the accesses of a closed set need: of its authorizations those on them, of its
-- rules those that stand for them. The same holds of these accesses (`needed-only`), and MAY answers the same
-- about them (`needed-may`).
use Rattle.std.specs.Prelude.{◌≡◌, refl, ℕ, Bool, true, false, ◌&&◌}
use Rattle.std.proofs.Common.{sym, ap, ◌∙◌, arith}
use Rattle.std.proofs.Math.Path.{ap₂}
use Rattle.std.proofs.Math.Bool.{not}
use Rattle.foundation.specs.Tests.{agree, true_eq}
use Rattle.foundation.specs.Lists.{keep_if, Mem, any_mem, mem_any, keep_if-mem, kept}
use Rattle.foundation.specs.Intervals.{always}
use Rattle.model.specs.declared.Head.{Head}
use Rattle.model.specs.declared.Authorization.{Authorization}
use Rattle.model.specs.declared.Rule.{Rule}
use Rattle.model.specs.declared.Access.{Access}
use Rattle.model.specs.declared.Pattern.{Pattern}
use Rattle.model.specs.Base.{Base}
use Rattle.model.specs.Support.{live}
use Rattle.model.proofs.SupportFacts.{mem-live, live-mem}
use Rattle.model.specs.Stratification.{stratified}
use Rattle.model.specs.Rules.{fits, stands_for, right_of, holds, asked, may_with, may}
use Rattle.model.proofs.SideFacts.{fits_is, stands_same}
use Rattle.model.specs.Effects.{with_authorizations, with_rules}
use Rattle.laws.specs.RulesAfter.{stratified-less}
use Rattle.laws.specs.Dependence.{depends_access}
use Rattle.laws.specs.Matching.{direct, Matched, Alike}
use Rattle.laws.specs.Transfer.{holds_alike}

-- the access that an authorization is on
abbrev pub access_of : Head → Access
access_of h = record { subject = h.subject; mode = h.mode; object = h.object }

-- what fits is on the access that is looked for
pub fits-access : (p : Pattern) (h : Head) → fits p h ≡ true → access_of h ≡ p.access
fits-access p h e =
    let w = (fits_is p h).0 e in
    let s = true_eq h.subject p.access.subject w.0 in
    let m = true_eq h.mode p.access.mode w.1 in
    let o = true_eq h.object p.access.object w.2 in
    λ i. record { subject = s i; mode = m i; object = o i }

-- the base with those authorizations and rules alone that pass
abbrev pub narrowed : Base → (Authorization → Bool) → (Rule → Bool) → Base
narrowed base keep_line keep_rule = with_authorizations (keep_if keep_line base.authorizations)
    (with_rules (keep_if keep_rule base.rules) base)

-- it is stratified if the base is
pub narrowed-stratified : (base : Base) → stratified base.rules ≡ true →
    (keep_line : Authorization → Bool) (keep_rule : Rule → Bool) →
    stratified (narrowed base keep_line keep_rule).rules ≡ true
narrowed-stratified base s keep_line keep_rule =
    stratified-less (keep_if keep_rule base.rules) base.rules
    (λ r m. (kept keep_rule base.rules r m).0) s

-- a rule stands for the same accesses there: which, says the base's objects and privileges
narrowed-stands : (base : Base) (keep_line : Authorization → Bool) (keep_rule : Rule → Bool) (r : Rule)
    (x : Access) → stands_for (narrowed base keep_line keep_rule) r x ≡ stands_for base r x
narrowed-stands base keep_line keep_rule r x = stands_same (narrowed base keep_line keep_rule) base r x refl

module _ (base : Base) (s : stratified base.rules ≡ true) (D : Access → Bool)
    (keep_line : Authorization → Bool) (keep_rule : Rule → Bool)
    (inward : (r : Rule) (x : Access) → Mem r base.rules → D x ≡ true → stands_for base r x ≡ true →
    D (right_of r x).access ≡ true)
    (rules : (r : Rule) (x : Access) → Mem r base.rules → D x ≡ true → stands_for base r x ≡ true →
    keep_rule r ≡ true)
    (lines : (a : Authorization) → Mem a base.authorizations → D (access_of a.head) ≡ true →
    keep_line a ≡ true) where
  abbrev less : Base
  less = narrowed base keep_line keep_rule

  -- what fits on an access of D is kept
  direct_same : (t : ℕ) (p : Pattern) → D p.access ≡ true →
      direct base t p ≡ direct (narrowed base keep_line keep_rule) t p
  direct_same t p d = agree (direct base t p) (direct less t p)
      (λ e. let m = any_mem (fits p) (live t base.authorizations) e in
      let w = live-mem t base.authorizations m.0 m.1 in
      let a = w.0 in
      let f : fits p a.head ≡ true = ap (fits p) w.2 ∙ m.2 in
      let k = lines a w.1 (ap D (fits-access p a.head f) ∙ d) in
      mem_any (fits p) (live t less.authorizations) a.head
      (mem-live t less.authorizations a (keep_if-mem keep_line base.authorizations a w.1 k) w.3) f)
      (λ e. let m = any_mem (fits p) (live t less.authorizations) e in
      let w = live-mem t less.authorizations m.0 m.1 in
      let a = w.0 in
      mem_any (fits p) (live t base.authorizations) a.head
      (mem-live t base.authorizations a (kept keep_line base.authorizations a w.1).0 w.3)
      (ap (fits p) w.2 ∙ m.2))

  forth : Matched D 0 base less
  forth r x w = (
    r,
    keep_if-mem keep_rule base.rules r w.listed (rules r x w.listed w.inside w.stands),
    refl,
    narrowed-stands base keep_line keep_rule r x ∙ w.stands,
  )

  back : Matched D 0 less base
  back r x w = (
    r,
    (kept keep_rule base.rules r w.listed).0,
    refl,
    sym (narrowed-stands base keep_line keep_rule r x) ∙ w.stands,
  )

  alike : Alike D 0 base less
  alike = record {
    inward = λ r x w. inward r x w.listed w.inside w.stands;
    lines = λ r x w p e t l. direct_same t p
        (ap D (depends_access r x p e) ∙ inward r x w.listed w.inside w.stands);
    fresh = λ r x w e. omega arith;
  }

  pub needed-only : (t : ℕ) (p : Pattern) → D p.access ≡ true →
      holds always base t p ≡ holds always (narrowed base keep_line keep_rule) t p
  needed-only t p d = holds_alike D 0 base less s (narrowed-stratified base s keep_line keep_rule) forth back
      alike t (omega arith) p d (direct_same t p d)

  pub needed-may : (x : Access) → D x ≡ true → (t : ℕ) →
      may base x t ≡ may (narrowed base keep_line keep_rule) x t
  unfolding may may_with
  needed-may x d t = ap₂ (λ (y z : Bool). y && not z)
      (needed-only t (asked x false) d) (needed-only t (asked x true) d)
