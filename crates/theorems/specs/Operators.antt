-- What is held, with no ranks (01, "Rules"). THEOREM `held-law`: with stratified rules a pattern is held at t
-- exactly if an authorization or a rule gives it, where each operator asks what its sentence says of what is
-- held. Rules in a circle may allow more than one such reading: `Held` of model is the smallest, by ranks.
use Rattle.std.specs.Prelude.{◌≡◌, ◌↔◌, ◌⊎◌, Bool, true, not, ◌&&◌, ℕ, ◌≤◌}
use Rattle.std.proofs.Common.{sym, ap, ◌∙◌, ⊎_elim, inl, inr, true≢false}
use Rattle.foundation.specs.Tests.{cases, not-true, and-true, and_intro, or_cases, or_true_right}
use Rattle.foundation.specs.Lists.{Mem, anyb, any_mem, mem_any}
use Rattle.foundation.specs.Intervals.{in_interval, always, always_all, all_always}
use Rattle.model.specs.declared.Rule.{Rule}
use Rattle.model.specs.declared.Operator.{Operator}
use Rattle.model.specs.declared.Operator.TheVariants.{Whenever, AsLongAs, WheneverNot, Unless}
use Rattle.model.specs.declared.Access.{Access}
use Rattle.model.specs.declared.Pattern.{Pattern}
use Rattle.model.specs.Base.{Base}
use Rattle.model.specs.Support.{live}
use Rattle.model.proofs.SupportFacts.{live-mem}
use Rattle.model.specs.Stratification.{stratified}
use Rattle.model.specs.Rules.{fact, fits, derives_for, right_of, asked, operate}
use Rattle.model.specs.Rules.{derived, holding}
use Rattle.model.proofs.HoldsLaws.{holds-law, derived-law}
use Rattle.model.specs.Held.{ByAuthorization, Held}
use Rattle.model.proofs.HeldFacts.{held, right_held}

-- a right side counts as held at u: it is held and, unless it is a denial itself, no denial of its access is
abbrev pub CountsAsHeld : Base → ℕ → Pattern → Type 0
CountsAsHeld b u p = Held b u p × ((p.negative ≡ true) ⊎ (Held b u (asked p.access true) → ⊥))

-- 01: "WHENEVER gives the left side at t if the right is held at t; ASLONGAS if held at all instants from the
-- rule's start to t; WHENEVERNOT and UNLESS likewise with 'not held'": of a right side that is held where
-- `Right` says so
abbrev pub Operates : Operator → (Right : ℕ → Type 0) → (start t : ℕ) → Type 0
Operates Whenever Right start t = Right t
Operates AsLongAs Right start t = (u : ℕ) → start ≤ u → u ≤ t → Right u
Operates WheneverNot Right start t = Right t → ⊥
Operates Unless Right start t = (u : ℕ) → start ≤ u → u ≤ t → Right u → ⊥

-- what the operator of a rule asks of its right side at t
abbrev pub Asks : Base → Rule → Access → ℕ → Type 0
Asks b r x t = Operates r.operator (λ u. CountsAsHeld b u (right_of r x)) r.interval.start t

-- a rule of the base gives what is looked for at t
pub record RuleGives (b : Base) (t : ℕ) (p : Pattern) : Type 0 where
  pub rule : Rule
  pub listed : Mem rule b.rules
  pub left : derives_for b p rule ≡ true
  pub inside : in_interval rule.interval t ≡ true
  pub asks : Asks b rule p.access t

-- a test is not passed exactly if what it tests is not so
untrue : {X : Type 0} (c : Bool) → (c ≡ true) ↔ X → (not c ≡ true) ↔ (X → ⊥)
untrue c w = (
  (λ e x. true≢false (sym (w.1 x) ∙ not-true c e)),
  (λ h. cases c (λ e. absurd (h (w.0 e))) (λ e. ap not e)),
)

-- what an operator computes is what it asks
operates : (o : Operator) (f : ℕ → Bool) (Right : ℕ → Type 0) → ((u : ℕ) → (f u ≡ true) ↔ Right u) →
    (start t : ℕ) → (operate always o f f start t ≡ true) ↔ Operates o Right start t
operates Whenever f Right w start t = w t
operates AsLongAs f Right w start t = (
  (λ e u i j. (w u).0 (always_all start t f e u i j)),
  (λ h. all_always start t f (λ u i j. (w u).1 (h u i j))),
)
operates WheneverNot f Right w start t = untrue (f t) (w t)
operates Unless f Right w start t = (
  (λ e u i j. (untrue (f u) (w u)).0 (always_all start t (λ u. not (f u)) e u i j)),
  (λ h. all_always start t (λ u. not (f u)) (λ u i j. (untrue (f u) (w u)).1 (h u i j))),
)

module _ (b : Base) (s : stratified b.rules ≡ true) where
  -- what a rule derives: in its interval, where its operator allows it
  derived_is : (r : Rule) → Mem r b.rules → (x : Access) (t : ℕ) →
      (derived b (fact r x t) ≡ true) ↔ ((in_interval r.interval t ≡ true) × Asks b r x t)
  derived_is r m x t =
      let f : ℕ → Bool = λ u. holding b u (right_of r x) in
      let v = operate always r.operator f f r.interval.start t in
      let w = operates r.operator f (λ u. CountsAsHeld b u (right_of r x))
      (λ u. right_held b s u (right_of r x))
      r.interval.start t in (
        (λ e. let a = and-true (in_interval r.interval t) v (sym (derived-law b s r m x t) ∙ e) in
            (a.0, w.0 a.1)),
        (λ h. derived-law b s r m x t ∙ and_intro (in_interval r.interval t) v h.0 (w.1 h.1)),
      )

-- THEOREM. 01: "Held means given by a line or by a rule, denied or not"
pub held-law : (b : Base) → stratified b.rules ≡ true → (t : ℕ) (p : Pattern) →
    Held b t p ↔ (ByAuthorization b t p ⊎ RuleGives b t p)
held-law b s t p =
    let given : Bool = anyb (fits p) (live t b.authorizations) in
    let test : Rule → Bool = λ r. derives_for b p r && derived b (fact r p.access t) in (
      (λ h. or_cases given (anyb test b.rules) (sym (holds-law b t p) ∙ (held b s t p).1 h)
          (λ a. let m = any_mem (fits p) (live t b.authorizations) a in
          let l = live-mem t b.authorizations m.0 m.1 in
          inl (record {
            authorization = l.0;
            listed = l.1;
            covers = l.3;
            fitting = ap (fits p) l.2 ∙ m.2;
          }))
          (λ a. let m = any_mem test b.rules a in
          let d = and-true (derives_for b p m.0) (derived b (fact m.0 p.access t)) m.2 in
          let g = (derived_is b s m.0 m.1 p.access t).0 d.1 in
          inr (record { rule = m.0; listed = m.1; left = d.0; inside = g.0; asks = g.1 }))),
      (λ c. ⊎_elim (λ g. (0, g))
          (λ g. (held b s t p).0 (holds-law b t p ∙ or_true_right given (anyb test b.rules)
          (mem_any test b.rules g.rule g.listed
          (and_intro (derives_for b p g.rule) (derived b (fact g.rule p.access t)) g.left
          ((derived_is b s g.rule g.listed p.access t).1 (g.inside, g.asks)))))) c),
    )
