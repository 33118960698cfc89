-- A request's rule as the base has it: its terms' ranges and stars are those of the rule.
use Rattle.std.specs.Prelude.{◌≡◌, refl, Bool, true, false, List, [], ◌∷◌, ℕ}
use Rattle.std.proofs.Common.{sym, ap, ◌∙◌, inl, inr}
use Rattle.std.specs.Bool.{beq}
use Rattle.std.proofs.lemmas.Bool.{false≢true}
use Rattle.foundation.specs.Tests.{or_true_right, true_eq, must_fail}
use Rattle.foundation.specs.Lists.{Mem, conjunct}
use Rattle.model.specs.declared.Term.{Term}
use Rattle.model.specs.declared.Term.TheVariants.{Any, Number}
use Rattle.model.specs.declared.SideTerms.{SideTerms}
use Rattle.model.specs.declared.RuleTerms.{RuleTerms}
use Rattle.model.specs.Ranges.{between, is_subject, is_object, is_mode}
use Rattle.model.specs.Stratification.{is_star}
use Rattle.model.specs.Requests.{number_of, side_of}
use Rattle.model.specs.Step.{term_in, stars_agree, option_fits, side_terms_in}
use Rattle.model.specs.Soundness.{or_star, side_in}

-- a number in its range or a star
pub term_in_lem : (range : ℕ → Bool) (t : Term) → term_in range t ≡ true → or_star range (number_of t) ≡ true
term_in_lem range Any e = refl
term_in_lem range (Number n) e = or_true_right (is_star n) (range n) e

-- the tests of a request's side of a rule
abbrev pub side_tests : SideTerms → List Bool
side_tests s = term_in is_subject s.subject ∷ term_in is_mode s.mode ∷ term_in is_object s.object ∷ []

pub side_tests_lem : (s : SideTerms) → side_terms_in s ≡ true → (x : Bool) → Mem x (side_tests s) → x ≡ true
side_tests_lem s = conjunct (side_tests s)

pub side_in_lem : (s : SideTerms) → side_terms_in s ≡ true → side_in (side_of s) ≡ true
side_in_lem s e =
    let t = side_tests_lem s e in
    rw (
      term_in_lem is_subject s.subject (t _ (inl refl)),
      term_in_lem is_mode s.mode (t _ (inr (inl refl))),
      term_in_lem is_object s.object (t _ (inr (inr (inl refl)))),
    )

-- a number in a range above 0 is no star, so that stars match where the request's do
pub stars_match_lem : (range : ℕ → Bool) → range 0 ≡ false → (t u : Term) → term_in range t ≡ true →
    term_in range u ≡ true →
    stars_agree t u ≡ true → beq (is_star (number_of t)) (is_star (number_of u)) ≡ true
stars_match_lem range z Any Any p q e = refl
stars_match_lem range z Any (Number n) p q e = absurd (false≢true e)
stars_match_lem range z (Number m) Any p q e = absurd (false≢true e)
stars_match_lem range z (Number m) (Number n) p q e = rw (number m p, number n q)
  where
    number : (n : ℕ) → range n ≡ true → is_star n ≡ false
    number n p = must_fail (range 0) (is_star n) z (λ h. sym (ap range (true_eq n 0 h)) ∙ p)

-- the tests of a request's rule
abbrev pub rule_tests : RuleTerms → List Bool
rule_tests u =
    (side_terms_in u.left
    ∷ side_terms_in u.right
    ∷ between 1 4 u.operator
    ∷ term_in is_subject u.grantor
    ∷ stars_agree u.left.subject u.right.subject
    ∷ stars_agree u.left.mode u.right.mode
    ∷ stars_agree u.left.object u.right.object
    ∷ option_fits u.right.negative u.option
    ∷ [])
