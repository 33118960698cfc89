-- What is built from facts that change at marks only changes at marks only (`holds-steady`, `round-steady`),
-- and from more facts no less is derived (`round_mono`).
use Rattle.std.specs.Prelude.{◌≡◌, refl, ℕ, suc, ◌*◌, Bool, true, ◌&&◌, ◌||◌, List, [], ◌∷◌, ltb, eqb, length}
use Rattle.std.proofs.Common.{sym, ap, ap₂, ◌∙◌, subst, inl, inr, arith}
use Rattle.foundation.specs.Tests.{pick, cases, and_mono, or_mono}
use Rattle.foundation.specs.Lists.{anyb, Mem, any_mono, any_cong_mem}
use Rattle.foundation.specs.declared.Interval.{Interval}
use Rattle.foundation.specs.Intervals.{in_interval, in_interval-true, always}
use Rattle.foundation.specs.Marks.{clear, Steady, clear_both}
use Rattle.model.specs.declared.Head.{Head}
use Rattle.model.specs.declared.Authorization.{Authorization}
use Rattle.model.specs.declared.Rule.{Rule}
use Rattle.model.specs.declared.Access.{Access}
use Rattle.model.specs.Base.{Base}
use Rattle.model.specs.Support.{live}
use Rattle.model.specs.Stratification.{stratum}
use Rattle.model.specs.Rules.{Pattern, Fact, fact, fits, derives_for, right_of, operate, holds_by, right_by}
use Rattle.model.specs.Rules.{derives, round, derived_below}
use Rattle.model.specs.Means.{boundaries, marks_of, rule_marks, all_marks}
use Rattle.model.specs.SupportMarks.{interval_steady, live_steady}
use Rattle.model.proofs.RightFacts.{right_mono, right_steady, operate_steady, operate_mono}

-- ---- marks

-- whether a rule's interval has an instant changes at the rules' marks only
rule_steady : (rs : List Rule) (r : Rule) → Mem r rs → Steady (λ t. in_interval r.interval t) (rule_marks rs)
rule_steady [] r m a t h e = absurd m.lower
rule_steady (q ∷ rs) r (inl p) a t h e =
    subst (λ (i : Interval). in_interval i t ≡ in_interval i a) (ap (λ (z : Rule). z.interval) (sym p))
    (interval_steady q.interval a t h (clear_both (boundaries q.interval) (rule_marks rs) a t e).0)
rule_steady (q ∷ rs) r (inr m) a t h e =
    rule_steady rs r m a t h (clear_both (boundaries q.interval) (rule_marks rs) a t e).1

pub marks-length : (xs : List Authorization) → length (marks_of xs) ≡ 2 * length xs
marks-length [] = refl
marks-length (x ∷ xs) = ap (λ (n : ℕ). suc (suc n)) (marks-length xs) ∙ omega arith

pub rule_marks-length : (rs : List Rule) → length (rule_marks rs) ≡ 2 * length rs
rule_marks-length [] = refl
rule_marks-length (r ∷ rs) = ap (λ (n : ℕ). suc (suc n)) (rule_marks-length rs) ∙ omega arith

-- one set of facts is a part of the other
abbrev pub Subset : (Fact → Bool) → (Fact → Bool) → Type 0
Subset S Q = (x : Fact) → S x ≡ true → Q x ≡ true

module _ (base : Base) where
  abbrev marks : List ℕ
  marks = all_marks base

  -- S changes at marks only
  abbrev pub Stead : (Fact → Bool) → Type 0
  Stead S = (r : Rule) → Mem r base.rules → (x : Access) → Steady (λ t. S (fact r x t)) marks

  -- the definitions for this base, in short: what holds if S says what rules derive, whether a right side
  -- counts as held, one round of a stratum, and what the strata below one derive
  abbrev pub holds_from : (Fact → Bool) → ℕ → Pattern → Bool
  holds_from = holds_by always base

  abbrev pub right_from : (Fact → Bool) → (Fact → Bool) → Pattern → ℕ → Bool
  right_from = right_by always base

  abbrev derived : (Fact → Bool) → (Fact → Bool) → Fact → Bool
  derived = derives always base

  abbrev pub round_from : ℕ → (Fact → Bool) → (Fact → Bool) → Fact → Bool
  round_from = round always base

  abbrev pub below : ℕ → Fact → Bool
  below = derived_below always base

  -- ---- what is built from steady sets is steady

  -- what holds of a pattern rests on the authorizations at the instant and on the facts about the pattern's
  -- access
  pub holds_cong : (S Q : Fact → Bool) (t u : ℕ) (p : Pattern) →
      live t base.authorizations ≡ live u base.authorizations →
      ((r : Rule) → Mem r base.rules → S (fact r p.access t) ≡ Q (fact r p.access u)) →
      holds_from S t p ≡ holds_from Q u p
  holds_cong S Q t u p l h = ap₂ (λ (x y : Bool). x || y) (ap (λ (hs : List Head). anyb (fits p) hs) l)
      (any_cong_mem (λ r. derives_for base p r && S (fact r p.access t))
      (λ r. derives_for base p r && Q (fact r p.access u)) base.rules
      (λ r m. ap (λ (b : Bool). derives_for base p r && b) (h r m)))

  -- no mark of an authorization, and none of a rule, lies between a and t
  unmarked : (a t : ℕ) → clear marks a t ≡ true →
      (clear (marks_of base.authorizations) a t ≡ true) × (clear (rule_marks base.rules) a t ≡ true)
  unmarked = clear_both (marks_of base.authorizations) (rule_marks base.rules)

  pub holds_steady : (S : Fact → Bool) → Stead S → (p : Pattern) → Steady (λ t. holds_from S t p) marks
  holds_steady S c p a t h e = holds_cong S S t a p
      (live_steady base.authorizations a t h (unmarked a t e).0)
      (λ r m. c r m p.access a t h e)

  pub right_by_steady : (L S : Fact → Bool) → Stead L → Stead S → (p : Pattern) →
      Steady (right_from L S p) marks
  right_by_steady L S c d p = right_steady marks (holds_from S) (holds_from L) p (holds_steady S d)
      (holds_steady L c)

  derives_steady : (L S : Fact → Bool) → Stead L → Stead S → Stead (derived L S)
  derives_steady L S c d r m x a t h e =
      let p = right_of r x in
      let i = rule_steady base.rules r m a t h (unmarked a t e).1 in
      cases (in_interval r.interval a)
      (λ y. rw (i, y) (operate_steady marks (right_from L S p) (right_from L L p)
      (right_by_steady L S c d p) (right_by_steady L L c c p)
      r.operator r.interval.start a t (in_interval-true r.interval a y).0 h e))
      (λ y. rw (i, y))

  pub round_steady : (k : ℕ) (L S : Fact → Bool) → Stead L → Stead S → Stead (round_from k L S)
  round_steady k L S c d r m x a t h e =
      let n = stratum base.rules r in
      ap₂ (λ (y z : Bool). pick (ltb n k) y (eqb n k && z)) (c r m x a t h e)
      (derives_steady L S c d r m x a t h e)

  -- ---- from more facts no less is derived

  holds_mono : (S Q : Fact → Bool) → Subset S Q → (t : ℕ) (p : Pattern) → holds_from S t p ≡ true →
      holds_from Q t p ≡ true
  holds_mono S Q h t p =
      let x : Rule → Fact = λ r. fact r p.access t in
      let s : Rule → Bool = λ r. derives_for base p r && S (x r) in
      let q : Rule → Bool = λ r. derives_for base p r && Q (x r) in
      or_mono (anyb (fits p) (live t base.authorizations)) (anyb s base.rules) (anyb q base.rules)
      (any_mono s q base.rules (λ r. and_mono (derives_for base p r) (S (x r)) (Q (x r)) (h (x r))))

  derives_mono : (L S Q : Fact → Bool) → Subset S Q → Subset (derived L S) (derived L Q)
  derives_mono L S Q h x =
      let r = x.rule in
      let p = right_of r x.access in
      let s = r.interval.start in
      let from : (Fact → Bool) → Bool =
      λ S. operate always r.operator (right_from L S p) (right_from L L p) s
      x.at in
      and_mono (in_interval r.interval x.at) (from S) (from Q)
      (operate_mono (right_from L S p) (right_from L Q p) (right_from L L p)
      (λ u. right_mono (holds_from S u) (holds_from Q u) (holds_from L u) p (holds_mono S Q h u)) r.operator s
      x.at)

  pub round_mono : (k : ℕ) (L S Q : Fact → Bool) → Subset S Q → Subset (round_from k L S) (round_from k L Q)
  round_mono k L S Q h x e =
      let n = stratum base.rules x.rule in
      cases (ltb n k)
      (λ p. rw p (rw p at e))
      (λ p. rw p (and_mono (eqb n k) (derived L S x) (derived L Q x) (derives_mono L S Q h x) (rw p at e)))
