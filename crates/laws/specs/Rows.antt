-- What the table's rows say of an accepted request, a fact each: that a test passes, or fails, because the
-- row's condition would hold otherwise (`must-pass`, `must-fail` in Tests).
use Rattle.std.specs.Prelude.{◌≡◌, refl, true, false, ◌&&◌, ◌||◌, [], ◌∷◌, suc, ◌≤◌, ◌<◌, leb, ltb}
use Rattle.std.proofs.Common.{inl, inr, arith}
use Rattle.foundation.specs.Tests.{must_pass, must_fail, false-le, le-true, or_true, or_none}
use Rattle.model.specs.declared.Request.{Request}
use Rattle.model.specs.Ranges.{is_instant, last_label, is_object, is_subject, is_mode}
use Rattle.model.specs.Base.{Base, exists, owns, administers, refers, controls, may_rule}
use Rattle.foundation.specs.Intervals.{none?}
use Rattle.model.specs.Support.{gaps}
use Rattle.model.specs.Stratification.{stratified}
use Rattle.model.specs.Requests.{NEW, ADDRULE, GRANTADM, GRANTREF, is, grants, labels, new_head, rules_after}
use Rattle.model.specs.Means.{plainly}
use Rattle.model.specs.Step.{names_object, names_subject, names_mode, names_interval, rule_terms_in, bad_interval}
use Rattle.model.specs.Step.{any_object, left_object, right_object, no_object}
use Rattle.model.specs.Step.{not_permitted, not_supported, already_there, not_stratified, counts_hold, full}
use Rattle.model.specs.Step.{effect}
use Rattle.model.specs.Soundness.{interval_in, starts_first}
use Rattle.model.specs.Step.{Accepted}
use Rattle.model.proofs.StepFacts.{in_range}

module _ (b : Base) (q : Request) (g : Accepted b q) where
  -- ---- row 3

  pub now_in : is_instant q.now ≡ true
  now_in = must_pass _ (is_instant q.now) (in_range q g.range _ (inr (inl refl))) (λ e. rw e)

  pub requester_in : is_subject q.requester ≡ true
  requester_in = must_pass _ (is_subject q.requester) (in_range q g.range _ (inr (inr (inl refl))))
      (λ e. rw e)

  pub object_in_lem : names_object q ≡ true → is_object q.object ≡ true
  object_in_lem k = must_pass _ (is_object q.object) (in_range q g.range _ (inr (inr (inr (inl refl)))))
      (λ e. rw (k, e))

  pub subject_in_lem : names_subject q ≡ true → is_subject q.subject ≡ true
  subject_in_lem k = must_pass _ (is_subject q.subject)
      (in_range q g.range _ (inr (inr (inr (inr (inl refl)))))) (λ e. rw (k, e))

  pub mode_in : names_mode q ≡ true → is_mode q.mode ≡ true
  mode_in k = must_pass _ (is_mode q.mode)
      (in_range q g.range _ (inr (inr (inr (inr (inr (inl refl))))))) (λ e. rw (k, e))

  pub interval_in_lem : names_interval q ≡ true → interval_in q.interval ≡ true
  interval_in_lem k = must_pass _ (interval_in q.interval)
      (in_range q g.range _ (inr (inr (inr (inr (inr (inr (inl refl)))))))) (λ e. rw (k, e))

  pub rule_in_lem : is q (ADDRULE ∷ []) ≡ true → rule_terms_in q.rule ≡ true
  rule_in_lem k = must_pass _ (rule_terms_in q.rule)
      (in_range q g.range _ (inr (inr (inr (inr (inr (inr (inr (inr (inl refl)))))))))) (λ e. rw (k, e))

  -- ---- rows 4 to 13

  pub clock_rises : b.clock ≤ q.now
  clock_rises = let l = false-le (suc q.now) b.clock g.clock in omega arith

  pub starts_first_lem : names_interval q ≡ true → starts_first q.interval ≡ true
  starts_first_lem k =
      let l = false-le (suc q.interval.end) q.interval.start
      (must_fail (bad_interval q) (ltb q.interval.end q.interval.start) g.interval
      (λ e. rw (k, e))) in
      le-true q.interval.start q.interval.end (omega arith)

  pub starts_late : labels q ≡ true → q.now ≤ q.interval.start
  starts_late k =
      let l = false-le (suc q.interval.start) q.now
      (must_fail (bad_interval q) (ltb q.interval.start q.now) g.interval
      (λ e. rw (k, e, or_true))) in
      omega arith

  pub object-exists : names_object q ≡ true → is q (NEW ∷ []) ≡ false → exists b q.object ≡ true
  object-exists k n = must_pass (no_object b q) (exists b q.object) g.object (λ e. rw (k, n, e))

  pub both_exist : is q (ADDRULE ∷ []) ≡ true →
      any_object q.rule || (exists b (left_object q) && exists b (right_object q)) ≡ true
  both_exist k = must_pass (no_object b q)
      (any_object q.rule || (exists b (left_object q) && exists b (right_object q)))
      g.object (λ e. rw (k, e, or_true))

  pub may_rule_lem : is q (ADDRULE ∷ []) ≡ true →
      any_object q.rule || may_rule b q.requester (left_object q) (right_object q) ≡ true
  may_rule_lem k = must_pass (not_permitted b q)
      (any_object q.rule || may_rule b q.requester (left_object q) (right_object q))
      g.permitted (λ e. rw (k, e, or_true))

  -- a grant or denial of who neither owns nor administers is covered
  pub all_covered : grants q ≡ true → controls b q.object q.requester ≡ false →
      none? (gaps b.authorizations (new_head (suc b.last) q) q.interval) ≡ true
  all_covered k c = must_pass (not_supported plainly b q)
      (none? (gaps b.authorizations (new_head (suc b.last) q) q.interval)) g.support
      (λ e. rw (k, c, e))

  pub object-new : is q (NEW ∷ []) ≡ true → exists b q.object ≡ false
  object-new k = must_fail (already_there b q) (exists b q.object) g.fresh (λ e. rw (k, e))

  pub not_administrator_lem : is q (GRANTADM ∷ []) ≡ true →
      (owns b q.object q.subject ≡ false) × (administers b q.object q.subject ≡ false)
  not_administrator_lem k = or_none (owns b q.object q.subject) (administers b q.object q.subject)
      (must_fail (already_there b q) (controls b q.object q.subject) g.fresh
      (λ e. rw (k, e, or_true)))

  pub not_referrer_lem : is q (GRANTREF ∷ []) ≡ true →
      (owns b q.object q.subject ≡ false) × (refers b q.object q.subject ≡ false)
  not_referrer_lem k = or_none (owns b q.object q.subject) (refers b q.object q.subject)
      (must_fail (already_there b q) (owns b q.object q.subject || refers b q.object q.subject)
      g.fresh
      (λ e. rw (k, e, or_true)))

  pub no_circle : is q (ADDRULE ∷ []) ≡ true → stratified (rules_after b q) ≡ true
  no_circle k = must_pass (not_stratified b q) (stratified (rules_after b q)) g.strata (λ e. rw (e, k))

  pub counts_in_lem : counts_hold (effect plainly b q) ≡ true
  counts_in_lem = must_pass (full plainly b q) (counts_hold (effect plainly b q)) g.room (λ e. rw e)

  pub label_left : labels q ≡ true → b.last < last_label
  label_left k = false-le last_label b.last (must_fail (full plainly b q) (leb last_label b.last)
      g.room
      (λ e. rw (k, e, or_true)))
