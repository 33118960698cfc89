-- What an accepted range says of a rule, what an uncovered instant says of row 9, and under which label the
-- new rule is tested.
use mathlib.Core.Path.{◌≡◌, refl, ap}
use mathlib.Core.Logic.{inl, inr}
use Prim.Native.Nat.{ℕ, suc, ◌<◌}
use native.Mathlib.Omega.{arith}
use mathlib.Core.Bool.{true, false, not, ◌&&◌}
use mathlib.Core.List.{[], ◌∷◌, ◌++◌}
use lib.Dec.{eqb}
use borrow.Author.Tests.{ne_eqb}
use Rattle.std.specs.Prelude.{Option, Some, None}
use Rattle.foundation.specs.Tests.{le-true, not-false, asked_passes}
use Rattle.foundation.specs.Lists.{anyb, conjunct}
use Rattle.model.specs.declared.Request.{Request}
use Rattle.model.specs.Ranges.{is_subject, last_label}
use Rattle.model.specs.Base.{Base, controls}
use Rattle.model.specs.Requests.{GRANT, DENY, REVOKEP, REVOKEN, ADDRULE, is, grants, new_head, new_rule}
use Rattle.model.specs.Stratification.{stratified}
use Rattle.model.specs.Step.{names_interval, rule_terms_in, out_of_range, not_stratified}
use Rattle.model.specs.Soundness.{interval_in, rule_in}
use Rattle.model.specs.FitsFacts.{RuleFits, rule_fits, at_most}
use Rattle.model.proofs.StepFacts.{in_range}
use Rattle.model.proofs.StratificationFacts.{label-free}
use Rattle.laws.specs.RuleTerms.{term_in_lem, side_in_lem, rule_tests}
use Rattle.cover.specs.Gaps.{GapIs}
use Rattle.refusals.specs.Asked.{UncoveredIs}

-- ---- ranges

-- ADDRULE's rule, under the label 1, fits its bytes, and so does the number of its operator
pub record RuleRequestIn (q : Request) : Type 0 where
  pub rule : RuleFits (new_rule 1 q)
  pub operator : q.rule.operator < 256

pub rule-request_in : (q : Request) → out_of_range q ≡ false → q.kind ≡ ADDRULE → RuleRequestIn q
rule-request_in q r e =
    let t = in_range q r in
    let named : names_interval q ≡ true =
    ap (λ (n : ℕ). anyb (λ k. eqb n k) (GRANT ∷ DENY ∷ REVOKEP ∷ REVOKEN ∷ ADDRULE ∷ [])) e in
    let adds : is q (ADDRULE ∷ []) ≡ true = ap (λ (n : ℕ). anyb (λ k. eqb n k) (ADDRULE ∷ [])) e in
    let u = conjunct (rule_tests q.rule) (asked_passes (is q (ADDRULE ∷ [])) (rule_terms_in q.rule) adds
    (t _ (inr (inr (inr (inr (inr (inr (inr (inr (inl refl))))))))))) in
    let within : rule_in (new_rule 1 q) ≡ true = rw (
      le-true 1 last_label (omega arith),
      not-false (is_subject q.requester) (t _ (inr (inr (inl refl)))),
      side_in_lem q.rule.left (u _ (inl refl)),
      side_in_lem q.rule.right (u _ (inr (inl refl))),
      term_in_lem is_subject q.rule.grantor (u _ (inr (inr (inr (inl refl))))),
      asked_passes (names_interval q) (interval_in q.interval) named
          (t _ (inr (inr (inr (inr (inr (inr (inl refl)))))))),
    ) in
    record {
      rule = rule_fits (new_rule 1 q) within;
      operator = omega (arith, at_most 1 4 q.rule.operator (u _ (inr (inr (inl refl)))));
    }

-- ---- row 9

-- the gaps under the new authorization are what row 9 asks for
pub uncovered_is : (b : Base) (q : Request) → grants q ≡ true →
    controls b q.object q.requester ≡ false →
    (r : Option ℕ) → GapIs b.authorizations (new_head (suc b.last) q) q.interval r → UncoveredIs b q r
uncovered_is b q e f (Some t) g = ((λ k. e k && not (f k) && not (g.0 k)), g.1)
uncovered_is b q e f None g = λ k. e k && not (f k) && not (g k)

-- ---- row 12

module _ (b : Base) (q : Request) where
  -- the new rule is tested under the label 1
  pub strata-rule : q.kind ≡ ADDRULE → not (stratified (b.rules ++ (new_rule 1 q ∷ []))) ≡ not_stratified b q
  strata-rule e =
      let k : is q (ADDRULE ∷ []) ≡ true = ap (λ (n : ℕ). anyb (λ j. eqb n j) (ADDRULE ∷ [])) e in
      rw k (ap not (label-free b.rules (new_rule 1 q) (new_rule (suc b.last) q) refl))

  pub strata_none : (q.kind ≡ ADDRULE → ⊥) → false ≡ not_stratified b q
  strata_none f = rw (ne_eqb q.kind ADDRULE f)
