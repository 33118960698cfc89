-- An accepted request on a sound base: the rules are sound after it, but for their authors (SoundAuthors).
use Rattle.std.specs.Prelude.{◌≡◌, refl, Bool, true, not, ◌&&◌, ◌||◌, [], ◌∷◌, ℕ, suc, leb, ltb}
use Rattle.std.proofs.Common.{sym, ◌∙◌, inl, inr, ⊎_elim, true≢false, arith}
use Rattle.foundation.specs.Tests.{cases, and-true, and_intro, or_cases, or_intro_left, or_true_right}
use Rattle.foundation.specs.Tests.{le-true, ltb_trans}
use Rattle.foundation.specs.Lists.{allb, Mem, all_mem, conjunct}
use Rattle.model.specs.declared.Rule.{Rule}
use Rattle.model.specs.declared.Request.{Request}
use Rattle.model.specs.Ranges.{is_subject, is_object, is_mode, last_label}
use Rattle.model.specs.Base.{Base, exists}
use Rattle.model.specs.Stratification.{is_star, stratified}
use Rattle.model.specs.Requests.{ADDRULE, DROPRULE, REVOKEADM, REVOKEREF, is, labels, new_rule, drops}
use Rattle.model.specs.Means.{plainly}
use Rattle.model.specs.Step.{option_fits, left_object, right_object, effect}
use Rattle.model.specs.Step.{Accepted}
use Rattle.model.specs.Soundness.{chained, rule_in, starts_first, stars_meet, stars_match, right_denials_plain}
use Rattle.model.specs.SoundnessFacts.{Sound}
use Rattle.model.specs.Kinds.{kind_is}
use Rattle.laws.specs.Rows.{requester_in, interval_in_lem, rule_in_lem, starts_first_lem, both_exist, no_circle}
use Rattle.laws.specs.Rows.{label_left}
use Rattle.model.specs.SoundTests.{order_test, ranges_test, intervals_test, exist_test}
use Rattle.laws.specs.SoundPrivileges.{exists-stays, last-stays}
use Rattle.laws.specs.Chained.{chained-keep, chained-last}
use Rattle.laws.specs.SoundFacts.{rule-label-given}
use Rattle.laws.specs.RuleTerms.{term_in_lem, side_tests_lem, side_in_lem, stars_match_lem, rule_tests}
use Rattle.laws.specs.RulesAfter.{rule_origin, rules_all, stratified-less}

module _ (b : Base) (q : Request) where
  abbrev after : Base
  after = effect plainly b q

  abbrev new : Rule
  new = new_rule (suc b.last) q

  module _ (s : Sound b) (g : Accepted b q) where
    -- the tests of ADDRULE's terms, one by one
    terms_in : is q (ADDRULE ∷ []) ≡ true → (x : Bool) → Mem x (rule_tests q.rule) → x ≡ true
    terms_in k = conjunct (rule_tests q.rule) (rule_in_lem b q g k)

    pub order_rules : chained (λ r u. ltb r.label u.label) after.rules ≡ true
    order_rules = cases (is q (ADDRULE ∷ []))
        (λ k. rw k (chained-last rises trans b.rules new old
        (λ r m. le-true (suc r.label) (suc b.last) (omega (arith, rule-label-given b s r m)))))
        (λ k. cases (is q (DROPRULE ∷ REVOKEADM ∷ REVOKEREF ∷ []))
        (λ l. rw (k, l) (chained-keep rises trans (λ r. not (drops b q r)) b.rules old))
        (λ l. rw (k, l) old))
      where
        rises : Rule → Rule → Bool
        rises r u = ltb r.label u.label

        old : chained rises b.rules ≡ true
        old = order_test b s _ (inr (inr (inr (inr (inl refl)))))

        trans : (x y z : Rule) → rises x y ≡ true → rises y z ≡ true → rises x z ≡ true
        trans x y z = ltb_trans x.label y.label z.label

    pub ranges_rules : allb rule_in after.rules ≡ true
    ranges_rules = rules_all b q rule_in
        (all_mem rule_in b.rules (ranges_test b s _ (inr (inr (inr (inr (inr (inr (inl refl)))))))))
        (λ k. rw (
          le-true 1 (suc b.last) (omega arith),
          le-true (suc b.last) last_label (label_left b q g (rw (kind_is q ADDRULE k))),
          requester_in b q g,
          side_in_lem q.rule.left (terms_in k _ (inl refl)),
          side_in_lem q.rule.right (terms_in k _ (inr (inl refl))),
          term_in_lem is_subject q.rule.grantor (terms_in k _ (inr (inr (inr (inl refl))))),
          interval_in_lem b q g (rw (kind_is q ADDRULE k)),
        ))

    pub intervals_rules : allb (λ r. starts_first r.interval) after.rules ≡ true
    intervals_rules = rules_all b q (λ r. starts_first r.interval)
        (all_mem (λ r. starts_first r.interval) b.rules (intervals_test b s _ (inr (inl refl))))
        (λ k. starts_first_lem b q g (rw (kind_is q ADDRULE k)))

    -- the objects of a rule exist, or are starred
    abbrev there : Base → ℕ → ℕ → Bool
    there c l r = is_star l || (exists c l && exists c r)

    pub exist_rules : allb (λ r. is_star r.left.object
        || (exists after r.left.object && exists after r.right.object)) after.rules ≡ true
    exist_rules = rules_all b q (λ r. there after r.left.object r.right.object)
        (λ r m. both r.left.object r.right.object
        (all_mem (λ r. there b r.left.object r.right.object) b.rules
        (exist_test b s _ (inr (inr (inr (inl refl))))) r m))
        (λ k. both (left_object q) (right_object q) (both_exist b q g k))
      where
        both : (l r : ℕ) → there b l r ≡ true → there after l r ≡ true
        both l r e = or_cases (is_star l) (exists b l && exists b r) e
            (λ a. or_intro_left (is_star l) (exists after l && exists after r) a)
            (λ a. let w = and-true (exists b l) (exists b r) a in
            or_true_right (is_star l) (exists after l && exists after r)
            (and_intro (exists after l) (exists after r)
            (exists-stays b q l w.0) (exists-stays b q r w.1)))

    pub labels_rules : allb (λ r. leb r.label after.last) after.rules ≡ true
    labels_rules = rules_all b q (λ r. leb r.label after.last)
        (λ r m. le-true r.label after.last (omega (arith, rule-label-given b s r m, last-stays b q)))
        (λ k. let e : labels q ≡ true = rw (kind_is q ADDRULE k) in
        rw e (le-true (suc b.last) (suc b.last) (omega arith)))

    pub stars_after : stars_match after ≡ true
    stars_after = rules_all b q stars_meet (all_mem stars_meet b.rules s.stars)
        (λ k. let l = side_tests_lem q.rule.left (terms_in k _ (inl refl)) in
        let r = side_tests_lem q.rule.right (terms_in k _ (inr (inl refl))) in
        rw (
          stars_match_lem is_subject refl q.rule.left.subject q.rule.right.subject
              (l _ (inl refl)) (r _ (inl refl)) (terms_in k _ (inr (inr (inr (inr (inl refl)))))),
          stars_match_lem is_mode refl q.rule.left.mode q.rule.right.mode
              (l _ (inr (inl refl))) (r _ (inr (inl refl)))
              (terms_in k _ (inr (inr (inr (inr (inr (inl refl))))))),
          stars_match_lem is_object refl q.rule.left.object q.rule.right.object
              (l _ (inr (inr (inl refl)))) (r _ (inr (inr (inl refl))))
              (terms_in k _ (inr (inr (inr (inr (inr (inr (inl refl)))))))),
        ))

    pub right_after : right_denials_plain after ≡ true
    right_after = rules_all b q (λ r. option_fits r.right.negative r.option)
        (all_mem (λ r. option_fits r.right.negative r.option) b.rules s.right)
        (λ k. terms_in k _ (inr (inr (inr (inr (inr (inr (inr (inl refl)))))))))

    pub strata-after : stratified after.rules ≡ true
    strata-after = cases (is q (ADDRULE ∷ []))
        (λ k. no_circle b q g k)
        (λ k. stratified-less after.rules b.rules
        (λ r m. ⊎_elim (λ w. absurd (true≢false (sym w.0 ∙ k))) (λ n. n) (rule_origin b q r m))
        s.strata)
