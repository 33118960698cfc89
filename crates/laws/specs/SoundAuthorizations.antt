-- An accepted request on a sound base leaves authorizations that pass the tests of soundness, but for their
-- support (SoundSupport).
use Rattle.std.specs.Prelude.{◌≡◌, refl, ℕ, suc, Bool, true, false, not, ◌&&◌, [], ◌∷◌, leb, eqb}
use Rattle.std.proofs.Common.{sym, ap, ◌∙◌, inl, inr, arith, true≢false}
use Rattle.foundation.specs.Tests.{cases, must_fail, le-true, true-le, ne_false, not-true, and-true}
use Rattle.foundation.specs.Tests.{and_intro}
use Rattle.foundation.specs.Lists.{anyb, allb, Mem, any_mem, any_false, all_mem}
use Rattle.model.specs.declared.Head.{Head}
use Rattle.model.specs.declared.Authorization.{Authorization}
use Rattle.model.specs.declared.Rule.{Rule}
use Rattle.model.specs.declared.Request.{Request}
use Rattle.model.specs.Ranges.{is_instant, is_subject, is_object, is_mode, is_label, last_instant, last_label}
use Rattle.model.specs.Base.{Base, exists}
use Rattle.model.specs.Requests.{NEW, GRANT, DENY, ADDRULE, is, grants, labels}
use Rattle.model.specs.Means.{plainly}
use Rattle.model.specs.Step.{names_interval, effect}
use Rattle.model.specs.Step.{Accepted}
use Rattle.model.specs.Soundness.{chained, rises, interval_in, authorization_in, starts_first, granted_in_time}
use Rattle.model.specs.Soundness.{denials_plain, labels_agree}
use Rattle.model.specs.SoundnessFacts.{Sound}
use Rattle.model.specs.SoundTests.{ranges_test, exist_test, labels_test}
use Rattle.model.specs.Kinds.{grant_kinds, label_kinds, object_kinds, subject_kinds, mode_kinds}
use Rattle.model.specs.Kinds.{interval_kinds}
use Rattle.model.specs.Kinds.{is_kinds, is_apart}
use Rattle.laws.specs.Chained.{pairwise_chained}
use Rattle.laws.specs.KeepFacts.{apart, Precedes, precedes-rises, precedes-apart}
use Rattle.laws.specs.SoundFacts.{granted_before, label-given, rule-label-given}
use Rattle.laws.specs.Rows.{now_in, requester_in, object_in_lem, subject_in_lem, mode_in, interval_in_lem}
use Rattle.laws.specs.Rows.{clock_rises}
use Rattle.laws.specs.Rows.{starts_first_lem, starts_late, object-exists, label_left}
use Rattle.laws.specs.SoundPrivileges.{exists-stays, last-stays}
use Rattle.laws.specs.RulesAfter.{RuleOrigin, rule_origin}
use Rattle.laws.specs.AuthorizationsAfter.{new_authorization, each_after, heads_after, sorted_after}

-- what the tests of an authorization's head ask
abbrev head_in : Head → Bool
head_in h =
    is_label h.label && is_subject h.grantor && is_subject h.subject && is_object h.object
    && is_mode h.mode
    && is_instant h.granted

-- ---- a grant or denial that is accepted

module _ (b : Base) (q : Request) (g : Accepted b q) (e : grants q ≡ true) where
  new-labels : labels q ≡ true
  new-labels = is_kinds q grant_kinds label_kinds refl e

  new-names : names_interval q ≡ true
  new-names = is_kinds q grant_kinds interval_kinds refl e

  new-object : exists b q.object ≡ true
  new-object = object-exists b q g (is_kinds q grant_kinds object_kinds refl e)
      (is_apart q grant_kinds (NEW ∷ []) refl e)

  new_in_range : authorization_in (new_authorization b q) ≡ true
  new_in_range = rw (
    le-true 1 (suc b.last) (omega arith),
    le-true (suc b.last) last_label (label_left b q g new-labels),
    requester_in b q g,
    subject_in_lem b q g (is_kinds q grant_kinds subject_kinds refl e),
    object_in_lem b q g (is_kinds q grant_kinds object_kinds refl e),
    mode_in b q g (is_kinds q grant_kinds mode_kinds refl e),
    now_in b q g,
    interval_in_lem b q g new-names,
  )

-- ---- after the request

module _ (b : Base) (q : Request) (s : Sound b) (g : Accepted b q) where
  pub order-authorizations : chained rises (effect plainly b q).authorizations ≡ true
  order-authorizations =
      pairwise_chained Precedes rises precedes-rises (effect plainly b q).authorizations (sorted_after b q s)

  pub agree_after : labels_agree (effect plainly b q) ≡ true
  agree_after =
      pairwise_chained Precedes apart precedes-apart (effect plainly b q).authorizations (sorted_after b q s)

  pub ranges_authorizations : allb authorization_in (effect plainly b q).authorizations ≡ true
  ranges_authorizations = each_after b q s authorization_in (new_in_range b q g) (λ a c m w.
      let x = and-true (head_in c.head) (interval_in c.interval)
      (all_mem authorization_in b.authorizations
      (ranges_test b s _ (inr (inr (inr (inr (inr (inl refl))))))) c m) in
      let y = and-true (is_instant c.interval.start) (is_instant c.interval.end) x.1 in
      let l = true-le c.interval.end last_instant y.1 in
      and_intro (head_in a.head) (interval_in a.interval) (ap head_in w.0 ∙ x.0)
      (and_intro (is_instant a.interval.start) (is_instant a.interval.end)
      (le-true a.interval.start last_instant (omega (arith, w.1, w.3)))
      (le-true a.interval.end last_instant (omega (arith, w.3)))))

  pub intervals_authorizations : allb (λ a. starts_first a.interval) (effect plainly b q).authorizations
      ≡ true
  intervals_authorizations = each_after b q s (λ a. starts_first a.interval)
      (λ e. starts_first_lem b q g (new-names b q g e))
      (λ a c m w. le-true a.interval.start a.interval.end w.1)

  pub granted_after : granted_in_time (effect plainly b q) ≡ true
  granted_after = each_after b q s
      (λ a. leb a.head.granted a.interval.start && leb a.head.granted q.now)
      (λ e. and_intro (leb q.now q.interval.start) (leb q.now q.now)
      (le-true q.now q.interval.start (starts_late b q g (new-labels b q g e)))
      (le-true q.now q.now (omega arith)))
      (λ a c m w. let x = granted_before b s c m in
      let h : a.head.granted ≡ c.head.granted = ap (λ (h : Head). h.granted) w.0 in
      and_intro (leb a.head.granted a.interval.start) (leb a.head.granted q.now)
      (le-true a.head.granted a.interval.start (omega (arith, x.0, w.2)))
      (le-true a.head.granted q.now (omega (arith, x.1, clock_rises b q g))))

  pub denials_after : denials_plain (effect plainly b q) ≡ true
  denials_after = heads_after b q s (λ h. not (h.negative && h.option))
      (λ e. cases (is q (DENY ∷ []))
      (λ d. rw (d, is_apart q (DENY ∷ []) (GRANT ∷ []) refl d))
      (λ d. rw d))
      (all_mem (λ a. not (a.head.negative && a.head.option)) b.authorizations s.denials)

  pub exist_authorizations :
      allb (λ a. exists (effect plainly b q) a.head.object) (effect plainly b q).authorizations ≡ true
  exist_authorizations = heads_after b q s (λ h. exists (effect plainly b q) h.object)
      (λ e. exists-stays b q q.object (new-object b q g e))
      (λ c m. exists-stays b q c.head.object (all_mem (λ a. exists b a.head.object)
      b.authorizations
      (exist_test b s _ (inr (inr (inl refl)))) c m))

  pub labels-authorizations :
      allb (λ a. leb a.head.label (effect plainly b q).last) (effect plainly b q).authorizations ≡ true
  labels-authorizations = heads_after b q s (λ h. leb h.label (effect plainly b q).last)
      (λ e. rw (new-labels b q g e) (le-true (suc b.last) (suc b.last) (omega arith)))
      (λ c m. le-true c.head.label (effect plainly b q).last
      (omega (arith, label-given b s c m, last-stays b q)))

  pub labels_apart_lem :
      allb (λ a. not (anyb (λ r. eqb r.label a.head.label) (effect plainly b q).rules))
      (effect plainly b q).authorizations ≡ true
  labels_apart_lem = heads_after b q s (λ h. not (anyb (λ r. eqb r.label h.label)
      (effect plainly b q).rules))
      (λ e. apart_from (suc b.last) (λ r m. new_one e r (rule_origin b q r m)))
      (λ c m. apart_from c.head.label (λ r n. old_one c m r (rule_origin b q r n)))
    where
      -- no rule after the request has that label
      apart_from : (n : ℕ) → ((r : Rule) → Mem r (effect plainly b q).rules → eqb r.label n ≡ false) →
          not (anyb (λ r. eqb r.label n) (effect plainly b q).rules) ≡ true
      apart_from n h = ap not (must_fail false (anyb (λ r. eqb r.label n) (effect plainly b q).rules) refl
          (λ e. let w = any_mem (λ r. eqb r.label n) (effect plainly b q).rules e in
          sym (h w.0 w.1) ∙ w.2))

      new_one : grants q ≡ true → (r : Rule) → RuleOrigin b q r → eqb r.label (suc b.last) ≡ false
      new_one e r (inl w) = absurd (true≢false (sym w.0 ∙ is_apart q grant_kinds (ADDRULE ∷ []) refl e))
      new_one e r (inr m) = ne_false r.label (suc b.last) (omega (arith, rule-label-given b s r m))

      old_one : (c : Authorization) → Mem c b.authorizations → (r : Rule) → RuleOrigin b q r →
          eqb r.label c.head.label ≡ false
      old_one c m r (inl w) =
          let l : r.label ≡ suc b.last = ap (λ (u : Rule). u.label) w.1 in
          ne_false r.label c.head.label (omega (arith, label-given b s c m))
      old_one c m r (inr n) = any_false (λ r. eqb r.label c.head.label) b.rules
          (not-true (anyb (λ r. eqb r.label c.head.label) b.rules)
          (all_mem (λ a. not (anyb (λ r. eqb r.label a.head.label) b.rules)) b.authorizations
          (labels_test b s _ (inl refl)) c m)) r n
