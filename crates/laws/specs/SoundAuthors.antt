-- An accepted request on a sound base: each rule's author has the powers that ADDRULE needs
-- (`authors-after`). For what REVOKEADM or REVOKEREF takes from an author drops the rules that need it.
use Rattle.std.specs.Prelude.{◌≡◌, Bool, true, false, ◌&&◌, ◌||◌, [], ◌∷◌, ℕ, suc, eqb}
use Rattle.foundation.specs.Tests.{cases, and-true, and_intro, or_cases, or_intro_left, or_true_right}
use Rattle.foundation.specs.Tests.{true_eq}
use Rattle.foundation.specs.Tests.{must_pass, must_fail, or_true}
use Rattle.foundation.specs.Lists.{all_mem}
use Rattle.model.specs.declared.Rule.{Rule}
use Rattle.model.specs.declared.Request.{Request}
use Rattle.model.specs.Base.{Base, owns, administers, refers, controls, may_rule}
use Rattle.model.specs.Stratification.{is_star}
use Rattle.model.specs.Requests.{ADDRULE, REVOKEADM, REVOKEREF, is, new_rule, drops}
use Rattle.model.specs.Means.{plainly}
use Rattle.model.specs.Step.{effect}
use Rattle.model.specs.Step.{Accepted}
use Rattle.model.specs.Soundness.{authors_may}
use Rattle.model.specs.SoundnessFacts.{Sound}
use Rattle.model.specs.Kinds.{kind_is}
use Rattle.laws.specs.Rows.{may_rule_lem}
use Rattle.laws.specs.SoundPrivileges.{loses, refers-stays, controls-stays}
use Rattle.laws.specs.RulesAfter.{kept_all}

module _ (b : Base) (q : Request) where
  abbrev after : Base
  after = effect plainly b q

  abbrev new : Rule
  new = new_rule (suc b.last) q

  -- the request withdraws u's privilege on o
  record Lost (kind o u : ℕ) : Type 0 where
    same : q.kind ≡ kind
    object : eqb o q.object ≡ true
    subject : eqb u q.subject ≡ true

  lost : (kind o u : ℕ) → loses q kind o u ≡ true → Lost kind o u
  lost kind o u e =
      let w = and-true (is q (kind ∷ [])) (eqb o q.object && eqb u q.subject) e in
      let p = and-true (eqb o q.object) (eqb u q.subject) w.1 in
      record { same = kind_is q kind w.0; object = p.0; subject = p.1 }

  module _ (s : Sound b) (g : Accepted b q) where
    -- the author of a rule that is not dropped has its powers still
    author-stays : (r : Rule) → drops b q r ≡ false →
        may_rule b r.author r.left.object r.right.object ≡ true →
        may_rule after r.author r.left.object r.right.object ≡ true
    author-stays r d e = and_intro (controls after l u) (controls after t u || refers after t u)
        (controls-stays b q l u (must_fail (drops b q r) (loses q REVOKEADM l u) d
        (λ h. let v = lost REVOKEADM l u h in rw (v.same, v.object, v.subject))) w.0)
        (or_cases (controls b t u) (refers b t u) w.1 by_controls by_refers)
      where
        u : ℕ
        u = r.author

        l : ℕ
        l = r.left.object

        t : ℕ
        t = r.right.object

        w : (controls b l u ≡ true) × (controls b t u || refers b t u ≡ true)
        w = and-true (controls b l u) (controls b t u || refers b t u) e

        -- an administrator no more: a referrer, as the rule is not dropped
        by_controls : controls b t u ≡ true → controls after t u || refers after t u ≡ true
        by_controls c = cases (loses q REVOKEADM t u)
            (λ h. let v = lost REVOKEADM t u h in
            or_true_right (controls after t u) (refers after t u)
            (refers-stays b q t u (rw v.same)
            (rw (true_eq t q.object v.object, true_eq u q.subject v.subject)
            (must_pass (drops b q r) (refers b q.object q.subject) d
            (λ f. rw (v.same, v.object, v.subject, f, or_true))))))
            (λ h. or_intro_left (controls after t u) (refers after t u) (controls-stays b q t u h c))

        -- a referrer no more: an administrator, as the rule is not dropped
        by_refers : refers b t u ≡ true → controls after t u || refers after t u ≡ true
        by_refers c = cases (loses q REVOKEREF t u)
            (λ h. let v = lost REVOKEREF t u h in
            or_intro_left (controls after t u) (refers after t u)
            (controls-stays b q t u (rw v.same)
            (or_true_right (owns b t u) (administers b t u)
            (rw (true_eq t q.object v.object, true_eq u q.subject v.subject)
            (must_pass (drops b q r) (administers b q.object q.subject) d
            (λ f. rw (v.same, v.object, v.subject, f)))))))
            (λ h. or_true_right (controls after t u) (refers after t u) (refers-stays b q t u h c))

    -- that of a rule with starred objects needs none
    abbrev allowed : Base → Rule → Bool
    allowed c r = is_star r.left.object || may_rule c r.author r.left.object r.right.object

    rule-stays : (r : Rule) → drops b q r ≡ false → allowed b r ≡ true → allowed after r ≡ true
    rule-stays r d e =
        let star = is_star r.left.object in
        let then = may_rule after r.author r.left.object r.right.object in
        or_cases star (may_rule b r.author r.left.object r.right.object) e
        (λ a. or_intro_left star then a) (λ a. or_true_right star then (author-stays r d a))

    pub authors_after : authors_may after ≡ true
    authors_after = kept_all b q (allowed after)
        (λ r m d. rule-stays r d (all_mem (allowed b) b.rules s.authors r m))
        (λ k. rule-stays new (rw (kind_is q ADDRULE k)) (may_rule_lem b q g k))
