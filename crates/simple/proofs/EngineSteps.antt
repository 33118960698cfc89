-- Why each step of the engine is right: the laws of what holds and of what a rule derives (HoldsLaws), as the
-- code asks them.
use mathlib.Core.Path.{◌≡◌, sym, ap, ◌∙◌}
use mathlib.Core.Bool.{Bool, true, false, not, ◌&&◌, ◌||◌, true≢false}
use mathlib.Core.List.{List}
use Prim.Native.Nat.{ℕ, ◌+◌, ◌≤◌, ◌<◌}
use native.Mathlib.Omega.{arith}
use lib.Dec.{eqb}
use Rattle.foundation.specs.Tests.{cases, true_eq, false_eq, and-false, not-true, not-false, or_cases}
use Rattle.foundation.specs.Tests.{or_none}
use Rattle.foundation.specs.Lists.{Mem, anyb}
use Rattle.foundation.specs.Intervals.{in_interval, always, always_all}
use Rattle.model.specs.declared.Rule.{Rule}
use Rattle.model.specs.declared.Operator.{Operator}
use Rattle.model.specs.declared.Pattern.{Pattern}
use Rattle.model.specs.Base.{Base}
use Rattle.model.specs.Stratification.{stratified}
use Rattle.model.specs.Rules.{derives_for, right_of, asked, operate, holds}
use Rattle.model.proofs.RightFacts.{right_positive, right_denial}
use Rattle.model.specs.Rules.{holding}
use Rattle.model.proofs.HoldsLaws.{holds-law, derived-law}
use Rattle.model.specs.Encoding.{decode}
use Rattle.simple.specs.Engine.{granted_at, gives_in}

-- ---- held

-- where an authorization gives it, or else a rule
pub held_granted : (s : List ℕ) (p : Pattern) (t : ℕ) → granted_at s p t ≡ true →
    true ≡ holds always (decode s) t p
held_granted s p t e = sym (holds-law (decode s) t p ∙ rw e)

pub held-given : (s : List ℕ) (p : Pattern) (t : ℕ) (rules : List Rule) → rules ≡ (decode s).rules →
    granted_at s p t ≡ false → anyb (gives_in (decode s) p t) rules ≡ holds always (decode s) t p
held-given s p t rules q e = ap (anyb (gives_in (decode s) p t)) q ∙ sym (holds-law (decode s) t p ∙ rw e)

-- ---- in force

module _ (b : Base) (p : Pattern) (t : ℕ) (h : Bool) (e : h ≡ holds always b t p) where
  pub force_unheld : h ≡ false → false ≡ holding b t p
  force_unheld n = ap (λ (x : Bool). x && (p.negative || not (holds always b t (asked p.access true))))
      (sym n ∙ e)

  pub force_denial : h ≡ true → p.negative ≡ true → true ≡ holding b t p
  force_denial y n = sym y ∙ e ∙ sym (right_denial (holds always b t) (holds always b t) p n)

  pub force_positive : h ≡ true → p.negative ≡ false → (d : Bool) →
      d ≡ holds always b t (asked p.access true) → not d ≡ holding b t p
  force_positive y n d g =
      ap not g
      ∙ ap (λ (x : Bool). x && not (holds always b t (asked p.access true))) (sym y ∙ e)
      ∙ sym (right_positive (holds always b t) (holds always b t) p n)

-- ---- gives

module _ (b : Base) (strata : stratified b.rules ≡ true) (r : Rule) (m : Mem r b.rules) (p : Pattern)
    (t : ℕ) where
  -- what the operator is to say of the right side
  abbrev pub says : Operator → Bool
  says o =
      let right = right_of r p.access in
      operate always o (λ u. holding b u right) (λ u. holding b u right) r.interval.start t

  -- its left side is something else, or t is not in its interval
  pub gives-not : (left inside : Bool) → left ≡ derives_for b p r → inside ≡ in_interval r.interval t →
      not left || not inside ≡ true → false ≡ gives_in b p t r
  gives-not left inside l i e = or_cases (not left) (not inside) e
      (λ n. sym (rw (sym l ∙ not-true left n)))
      (λ n. sym (rw (derived-law b strata r m p.access t, sym i ∙ not-true inside n)
      (and-false (derives_for b p r))))

  -- else its operator decides
  pub gives-says : (left inside : Bool) → left ≡ derives_for b p r → inside ≡ in_interval r.interval t →
      not left || not inside ≡ false → (o : Operator) → r.operator ≡ o → says o ≡ gives_in b p t r
  gives-says left inside l i e o q =
      let n = or_none (not left) (not inside) e in
      sym (rw (
        derived-law b strata r m p.access t,
        sym l ∙ not-false left n.0,
        sym i ∙ not-false inside n.1,
      ) (ap says q))

-- ---- throughout

-- one instant that is not
pub not_throughout : (a t : ℕ) (f : ℕ → Bool) (u : ℕ) → a ≤ u → u ≤ t → f u ≡ false → false ≡ always a t f
not_throughout a t f u h k e = cases (always a t f)
    (λ g. absurd (true≢false (sym (always_all a t f g u h k) ∙ e)))
    (λ g. sym g)

-- one instant more that is
pub through_next : (a : ℕ) (f : ℕ → Bool) (u : ℕ) → ((v : ℕ) → a ≤ v → v < u → f v ≡ true) → f u ≡ true →
    (v : ℕ) → a ≤ v → v < u + 1 → f v ≡ true
through_next a f u h e v k l = cases (eqb v u)
    (λ q. ap f (true_eq v u q) ∙ e)
    (λ q. let n = false_eq v u q in h v k (omega arith))
