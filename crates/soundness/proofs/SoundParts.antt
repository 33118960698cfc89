-- Soundness body by body, as code asks it: `sound-parts` says that a base is sound exactly if every part
-- passes.
use mathlib.Core.Path.{◌≡◌, refl}
use mathlib.Core.Logic.{inl, inr}
use mathlib.Core.Bool.{Bool, true, not, ◌&&◌, ◌||◌}
use mathlib.Core.List.{List, [], ◌∷◌}
use lib.Dec.{leb, ltb, eqb}
use Rattle.foundation.specs.Tests.{agree, and-true, and_intro}
use Rattle.foundation.specs.Lists.{anyb, allb, Mem, all_mem, mem_all, all_both, all_each, conjunct}
use Rattle.model.specs.declared.Privilege.{Privilege}
use Rattle.model.specs.declared.Authorization.{Authorization}
use Rattle.model.specs.declared.Rule.{Rule}
use Rattle.model.specs.Ranges.{is_instant, last_label}
use Rattle.model.specs.Base.{Base, listed, exists, owns, may_rule}
use Rattle.model.specs.Requests.{before}
use Rattle.model.specs.Stratification.{is_star, stratified}
use Rattle.model.specs.Step.{counts_hold, option_fits}
use Rattle.model.specs.Soundness.{chained, rises, privilege_in, authorization_in, rule_in, starts_first}
use Rattle.model.specs.Soundness.{all_supported, stars_meet, sound}
use Rattle.model.specs.SoundnessFacts.{Sound, sound_tests_lem, tests-sound}
use Rattle.lookup.specs.RecordTests.{exists_in}
use Rattle.model.specs.SoundTests.{order_test, ranges_test, intervals_test, exist_test, owners_test}
use Rattle.model.specs.SoundTests.{labels_test}
use Rattle.laws.specs.Chained.{chained-both, chained-each}
use Rattle.bodies.specs.BodyTests.{objects_part, privilege_test, privileges_part, neighbours, authorization_test}
use Rattle.bodies.specs.BodyTests.{authorizations_part, may_rule_in, rule_test, rules_part}

-- all the parts
abbrev pub parts : Base → Bool
parts b =
    counts_hold b
    && is_instant b.clock
    && leb b.last last_label
    && objects_part b.objects
    && privileges_part b.objects b.administrators
    && privileges_part b.objects b.referrers
    && authorizations_part b.objects b.rules b.clock b.last b.authorizations
    && rules_part b.objects b.administrators b.referrers b.last b.rules
    && all_supported b
    && stratified b.rules

-- ---- the theorem

module _ (b : Base) where
  abbrev os : List Privilege
  os = b.objects

  abbrev part_tests : List Bool
  part_tests =
      counts_hold b
      ∷ is_instant b.clock
      ∷ leb b.last last_label
      ∷ objects_part os
      ∷ privileges_part os b.administrators
      ∷ privileges_part os b.referrers
      ∷ authorizations_part os b.rules b.clock b.last b.authorizations
      ∷ rules_part os b.administrators b.referrers b.last b.rules
      ∷ all_supported b
      ∷ stratified b.rules
      ∷ []

  -- the tests of one authorization, and of one rule
  abbrev authorization_tests : Authorization → List Bool
  authorization_tests a =
      authorization_in a
      ∷ starts_first a.interval
      ∷ (leb a.head.granted a.interval.start && leb a.head.granted b.clock)
      ∷ not (a.head.negative && a.head.option)
      ∷ exists_in os a.head.object
      ∷ not (anyb (λ r. eqb r.label a.head.label) b.rules)
      ∷ leb a.head.label b.last
      ∷ []

  abbrev rule_tests : Rule → List Bool
  rule_tests r =
      rule_in r
      ∷ starts_first r.interval
      ∷ (is_star r.left.object || (exists_in os r.left.object && exists_in os r.right.object))
      ∷ leb r.label b.last
      ∷ (is_star r.left.object
      || may_rule_in os b.administrators b.referrers r.author r.left.object r.right.object)
      ∷ stars_meet r
      ∷ option_fits r.right.negative r.option
      ∷ []

  -- the objects of a rule exist and its author has the powers for it, unless they are starred
  abbrev objects_there : Rule → Bool
  objects_there r = is_star r.left.object || (exists b r.left.object && exists b r.right.object)

  abbrev author_may : Rule → Bool
  author_may r = is_star r.left.object || may_rule b r.author r.left.object r.right.object

  module _ (s : Sound b) where
    privileges_pass : (ps : List Privilege) → chained before ps ≡ true → allb privilege_in ps ≡ true →
        allb (λ p. exists b p.object) ps ≡ true →
        allb (λ p. not (owns b p.object p.subject)) ps ≡ true →
        privileges_part os ps ≡ true
    privileges_pass ps c r e o = and_intro (chained before ps) (allb (privilege_test os) ps) c
        (all_both (λ p. privilege_in p && exists_in os p.object)
        (λ p. not (listed os p.object p.subject)) ps
        (all_both privilege_in (λ p. exists_in os p.object) ps r e) o)

    authorizations_pass : allb (authorization_test os b.rules b.clock b.last) b.authorizations
        ≡ true
    authorizations_pass = mem_all (authorization_test os b.rules b.clock b.last) b.authorizations
        (λ a m. rw (
          all_mem authorization_in b.authorizations
              (ranges_test b s _ (inr (inr (inr (inr (inr (inl refl))))))) a m,
          all_mem (λ a. starts_first a.interval) b.authorizations (intervals_test b s _ (inl refl)) a m,
          all_mem (λ a. leb a.head.granted a.interval.start && leb a.head.granted b.clock)
              b.authorizations s.granted a m,
          all_mem (λ a. not (a.head.negative && a.head.option)) b.authorizations s.denials a m,
          all_mem (λ a. exists b a.head.object) b.authorizations
              (exist_test b s _ (inr (inr (inl refl)))) a m,
          all_mem (λ a. not (anyb (λ r. eqb r.label a.head.label) b.rules)) b.authorizations
              (labels_test b s _ (inl refl)) a m,
          all_mem (λ a. leb a.head.label b.last) b.authorizations
              (labels_test b s _ (inr (inl refl))) a m,
        ))

    rules_pass : allb (rule_test os b.administrators b.referrers b.last) b.rules ≡ true
    rules_pass = mem_all (rule_test os b.administrators b.referrers b.last) b.rules (λ r m. rw (
      all_mem rule_in b.rules (ranges_test b s _ (inr (inr (inr (inr (inr (inr (inl refl)))))))) r m,
      all_mem (λ r. starts_first r.interval) b.rules (intervals_test b s _ (inr (inl refl))) r m,
      all_mem objects_there b.rules (exist_test b s _ (inr (inr (inr (inl refl))))) r m,
      all_mem (λ r. leb r.label b.last) b.rules (labels_test b s _ (inr (inr (inl refl)))) r m,
      all_mem author_may b.rules s.authors r m,
      all_mem stars_meet b.rules s.stars r m,
      all_mem (λ r. option_fits r.right.negative r.option) b.rules s.right r m,
    ))

    pass : parts b ≡ true
    pass = rw (
      s.counts,
      ranges_test b s _ (inl refl),
      ranges_test b s _ (inr (inl refl)),
      and_intro (chained (λ p r. ltb p.object r.object) os) (allb privilege_in os)
          (order_test b s _ (inl refl)) (ranges_test b s _ (inr (inr (inl refl)))),
      privileges_pass b.administrators (order_test b s _ (inr (inl refl)))
          (ranges_test b s _ (inr (inr (inr (inl refl))))) (exist_test b s _ (inl refl))
          (owners_test b s _ (inl refl)),
      privileges_pass b.referrers (order_test b s _ (inr (inr (inl refl))))
          (ranges_test b s _ (inr (inr (inr (inr (inl refl)))))) (exist_test b s _ (inr (inl refl)))
          (owners_test b s _ (inr (inl refl))),
      and_intro (chained neighbours b.authorizations)
          (allb (authorization_test os b.rules b.clock b.last) b.authorizations)
          (chained-both rises _ b.authorizations (order_test b s _ (inr (inr (inr (inl refl)))))
          s.agree)
          authorizations_pass,
      and_intro (chained (λ r u. ltb r.label u.label) b.rules)
          (allb (rule_test os b.administrators b.referrers b.last) b.rules)
          (order_test b s _ (inr (inr (inr (inr (inl refl)))))) rules_pass,
      s.support,
      s.strata,
    )

  module _ (e : parts b ≡ true) where
    part : (x : Bool) → Mem x part_tests → x ≡ true
    part = conjunct part_tests e

    authorization-part : (a : Authorization) → Mem a b.authorizations → (x : Bool) →
        Mem x (authorization_tests a) → x ≡ true
    authorization-part a m = conjunct (authorization_tests a)
        (all_mem (authorization_test os b.rules b.clock b.last) b.authorizations
        (and-true (chained neighbours b.authorizations)
        (allb (authorization_test os b.rules b.clock b.last) b.authorizations)
        (part _ (inr (inr (inr (inr (inr (inr (inl refl))))))))).1 a m)

    rule-part : (r : Rule) → Mem r b.rules → (x : Bool) → Mem x (rule_tests r) → x ≡ true
    rule-part r m = conjunct (rule_tests r)
        (all_mem (rule_test os b.administrators b.referrers b.last) b.rules
        (and-true (chained (λ r u. ltb r.label u.label) b.rules)
        (allb (rule_test os b.administrators b.referrers b.last) b.rules)
        (part _ (inr (inr (inr (inr (inr (inr (inr (inl refl)))))))))).1 r m)

    privileges_all : (ps : List Privilege) → privileges_part os ps ≡ true →
        (chained before ps ≡ true) × (allb privilege_in ps ≡ true)
        × (allb (λ p. exists b p.object) ps ≡ true)
        × (allb (λ p. not (owns b p.object p.subject)) ps ≡ true)
    privileges_all ps f =
        let w = and-true (chained before ps) (allb (privilege_test os) ps) f in
        let u = all_each (λ p. privilege_in p && exists_in os p.object)
        (λ p. not (listed os p.object p.subject)) ps w.1 in
        let v = all_each privilege_in (λ p. exists_in os p.object) ps u.0 in
        (w.0, v.0, v.1, u.1)

    passes : Sound b
    passes =
        let ob = and-true (chained (λ p r. ltb p.object r.object) os) (allb privilege_in os)
        (part _ (inr (inr (inr (inl refl))))) in
        let ad = privileges_all b.administrators (part _ (inr (inr (inr (inr (inl refl)))))) in
        let rf = privileges_all b.referrers (part _ (inr (inr (inr (inr (inr (inl refl))))))) in
        let au = chained-each rises _ b.authorizations
        (and-true (chained neighbours b.authorizations)
        (allb (authorization_test os b.rules b.clock b.last) b.authorizations)
        (part _ (inr (inr (inr (inr (inr (inr (inl refl))))))))).0 in
        let ru = (and-true (chained (λ r u. ltb r.label u.label) b.rules)
        (allb (rule_test os b.administrators b.referrers b.last) b.rules)
        (part _ (inr (inr (inr (inr (inr (inr (inr (inl refl)))))))))).0 in
        let a1 = mem_all authorization_in b.authorizations (λ a m. authorization-part a m _ (inl refl)) in
        let a2 = mem_all (λ a. starts_first a.interval) b.authorizations
        (λ a m. authorization-part a m _ (inr (inl refl))) in
        let a5 = mem_all (λ a. exists b a.head.object) b.authorizations
        (λ a m. authorization-part a m _ (inr (inr (inr (inr (inl refl)))))) in
        let a6 = mem_all (λ a. not (anyb (λ r. eqb r.label a.head.label) b.rules))
        b.authorizations (λ a m. authorization-part a m _ (inr (inr (inr (inr (inr (inl refl))))))) in
        let a7 = mem_all (λ a. leb a.head.label b.last) b.authorizations
        (λ a m. authorization-part a m _ (inr (inr (inr (inr (inr (inr (inl refl)))))))) in
        let r1 = mem_all rule_in b.rules (λ r m. rule-part r m _ (inl refl)) in
        let r2 = mem_all (λ r. starts_first r.interval) b.rules
        (λ r m. rule-part r m _ (inr (inl refl))) in
        let r3 = mem_all objects_there b.rules (λ r m. rule-part r m _ (inr (inr (inl refl)))) in
        let r4 = mem_all (λ r. leb r.label b.last) b.rules
        (λ r m. rule-part r m _ (inr (inr (inr (inl refl))))) in
        record {
          counts = part _ (inl refl);
          order = rw (ob.0, ad.0, rf.0, au.0, ru);
          ranges = rw (part _ (inr (inl refl)), part _ (inr (inr (inl refl))), ob.1, ad.1, rf.1, a1, r1);
          intervals = rw (a2, r2);
          granted = mem_all (λ a. leb a.head.granted a.interval.start
              && leb a.head.granted b.clock) b.authorizations
              (λ a m. authorization-part a m _ (inr (inr (inl refl))));
          denials = mem_all (λ a. not (a.head.negative && a.head.option)) b.authorizations
              (λ a m. authorization-part a m _ (inr (inr (inr (inl refl)))));
          objects = rw (ad.2, rf.2, a5, r3);
          owners = rw (ad.3, rf.3);
          labels = rw (a6, a7, r4);
          agree = au.1;
          support = part _ (inr (inr (inr (inr (inr (inr (inr (inr (inl refl)))))))));
          authors = mem_all author_may b.rules
              (λ r m. rule-part r m _ (inr (inr (inr (inr (inl refl))))));
          stars = mem_all stars_meet b.rules
              (λ r m. rule-part r m _ (inr (inr (inr (inr (inr (inl refl)))))));
          right = mem_all (λ r. option_fits r.right.negative r.option) b.rules
              (λ r m. rule-part r m _ (inr (inr (inr (inr (inr (inr (inl refl))))))));
          strata = part _ (inr (inr (inr (inr (inr (inr (inr (inr (inr (inl refl))))))))));
        }

-- sound exactly if every part passes
pub sound-parts : (b : Base) → sound b ≡ parts b
sound-parts b = agree (sound b) (parts b) (λ e. pass b (sound_tests_lem b e)) (λ e. tests-sound b (passes b e))
