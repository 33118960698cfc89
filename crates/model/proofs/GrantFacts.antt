-- What rows 14 and 9 say of a grant or denial, instant by instant and field by field (`barred-instant`,
-- `unsupported-instant`). That lines already given stay when their giver is denied is what DENY does: the
-- lines before, and one more (`Effects.effect-deny`).
use Rattle.std.specs.Prelude.{◌≡◌, refl, ◌⊎◌, ◌↔◌, Bool, true, false, not, ◌||◌, List, ℕ, suc, ◌≤◌, ltb, eqb}
use Rattle.std.proofs.Common.{sym, ap, subst, ◌∙◌, inl, inr, arith}
use Rattle.std.proofs.lemmas.Bool.{false≢true}
use Rattle.foundation.specs.Tests.{cases, must_fail, and-true, and_intro, and_three, and-four, or_cases}
use Rattle.foundation.specs.Tests.{or_none, or_false, not-true, eq_true, true_eq, true-le, false-le}
use Rattle.foundation.specs.Lists.{Mem, anyb, allb, any_mem, mem_any, all_mem}
use Rattle.foundation.specs.Intervals.{none?, overlap, overlap-instant}
use Rattle.model.specs.declared.Privilege.{Privilege}
use Rattle.model.specs.declared.Authorization.{Authorization}
use Rattle.model.specs.declared.Request.{Request}
use Rattle.model.specs.Base.{Base, privilege, is_privilege, listed, owns, administers, controls}
use Rattle.model.specs.Support.{gaps}
use Rattle.model.proofs.SupportFacts.{earliest_gaps}
use Rattle.model.specs.Requests.{GRANT, DENY, grants, new_head}
use Rattle.model.specs.Means.{plainly}
use Rattle.model.specs.Kinds.{grant_kinds, interval_kinds, is_kinds}
use Rattle.model.specs.Soundness.{starts_first}
use Rattle.model.specs.SoundnessFacts.{Sound}
use Rattle.model.specs.Step.{names_interval, bad_interval, denies, bars, barred, not_supported}
use Rattle.model.specs.Step.{earliest_gap}
use Rattle.model.proofs.StepFacts.{earliest_gap_lem}
use Rattle.model.specs.Step.{Unlisted, Outside, Barred, Uncovered}

-- ---- who is outside

module _ (ps : List Privilege) (o s : ℕ) where
  unlisted : listed ps o s ≡ false → Unlisted ps o s
  unlisted e m = false≢true (sym e ∙ mem_any (is_privilege o s) ps (privilege o s) m
      (and_intro (eqb o o) (eqb s s) (eq_true o o refl) (eq_true s s refl)))

  not_listed : Unlisted ps o s → listed ps o s ≡ false
  not_listed h = cases (listed ps o s)
      (λ e. let w = any_mem (is_privilege o s) ps e in
      let p = w.0 in
      let d = and-true (eqb p.object o) (eqb p.subject s) w.2 in
      let same : p ≡ privilege o s =
      λ i. privilege (true_eq p.object o d.0 i) (true_eq p.subject s d.1 i) in
      absurd (h (subst (λ (x : Privilege). Mem x ps) same w.1)))
      (λ e. e)

module _ (b : Base) (q : Request) where
  granting : grants q ≡ true → (q.kind ≡ GRANT) ⊎ (q.kind ≡ DENY)
  granting e = or_cases (eqb q.kind GRANT) (eqb q.kind DENY || false) e
      (λ p. inl (true_eq q.kind GRANT p))
      (λ p. inr (true_eq q.kind DENY (sym (or_false (eqb q.kind DENY)) ∙ p)))

  grants_by : (q.kind ≡ GRANT) ⊎ (q.kind ≡ DENY) → grants q ≡ true
  grants_by (inl e) = rw e
  grants_by (inr e) = rw e

  abbrev exempt : Bool
  exempt = controls b q.object q.requester

  is_outside : grants q ≡ true → exempt ≡ false → Outside b q
  is_outside g e =
      let w = or_none (owns b q.object q.requester) (administers b q.object q.requester) e in
      record {
        kind = granting g;
        owner = unlisted b.objects q.object q.requester w.0;
        administrator = unlisted b.administrators q.object q.requester w.1;
      }

  outside_exempt : Outside b q → exempt ≡ false
  outside_exempt w = λ k.
      not_listed b.objects q.object q.requester w.owner k
      || not_listed b.administrators q.object q.requester w.administrator k

  -- ---- row 9

  pub unsupported_instant : (not_supported plainly b q ≡ true) ↔ Uncovered b q
  unsupported_instant = (there, back)
    where
      lacks : Bool
      lacks = none? (gaps b.authorizations (new_head (suc b.last) q) q.interval)

      there : not_supported plainly b q ≡ true → Uncovered b q
      there e =
          let w = (and_three (grants q) (not exempt) (not lacks)).0 e in
          record {
            outside = is_outside w.0 (not-true exempt w.1);
            instant = earliest_gap plainly b q;
            earliest = earliest_gap_lem b q e;
          }

      back : Uncovered b q → not_supported plainly b q ≡ true
      back w = (and_three (grants q) (not exempt) (not lacks)).1 (
        grants_by w.outside.kind,
        ap not (outside_exempt w.outside),
        ap not (earliest_gaps b.authorizations (new_head (suc b.last) q) q.interval w.instant
            w.earliest),
      )

  -- ---- row 14

  -- the span is not empty, nor is an authorization's interval
  span : bad_interval q ≡ false → grants q ≡ true → q.interval.start ≤ q.interval.end
  span i g =
      let named : names_interval q ≡ true = is_kinds q grant_kinds interval_kinds refl g in
      let l = false-le (suc q.interval.end) q.interval.start
      (must_fail (bad_interval q) (ltb q.interval.end q.interval.start) i (λ e. rw (named, e))) in
      omega arith

  line_span : Sound b → (a : Authorization) → Mem a b.authorizations →
      a.interval.start ≤ a.interval.end
  line_span s a m =
      let w = and-true (allb (λ x. starts_first x.interval) b.authorizations)
      (allb (λ r. starts_first r.interval) b.rules) s.intervals in
      true-le a.interval.start a.interval.end
      (all_mem (λ x. starts_first x.interval) b.authorizations w.0 a m)

  pub barred-instant : Sound b → bad_interval q ≡ false → (barred b q ≡ true) ↔ Barred b q
  barred-instant s i = (there, back)
    where
      there : barred b q ≡ true → Barred b q
      there e =
          let w = (and_three (grants q) (not exempt) (anyb (bars q) b.authorizations)).0 e in
          let found = any_mem (bars q) b.authorizations w.2 in
          let a = found.0 in
          let d = and-true (denies q a.head) (overlap a.interval q.interval) found.2 in
          let h = (and-four a.head.negative (eqb a.head.subject q.requester)
          (eqb a.head.object q.object) (eqb a.head.mode q.mode)).0 d.0 in
          let shared = (overlap-instant a.interval q.interval (line_span s a found.1)
          (span i w.0)).0 d.1 in
          record {
            outside = is_outside w.0 (not-true exempt w.1);
            instant = shared.0;
            within = shared.2;
            denied = record {
              line = a;
              stands = found.1;
              covers = shared.1;
              negative = h.0;
              subject = true_eq a.head.subject q.requester h.1;
              object = true_eq a.head.object q.object h.2;
              mode = true_eq a.head.mode q.mode h.3;
            };
          }

      back : Barred b q → barred b q ≡ true
      back w =
          let d = w.denied in
          let a = d.line in
          let shared = (overlap-instant a.interval q.interval (line_span s a d.stands)
          (span i (grants_by w.outside.kind))).1 (w.instant, d.covers, w.within) in
          let h = (and-four a.head.negative (eqb a.head.subject q.requester)
          (eqb a.head.object q.object) (eqb a.head.mode q.mode)).1 (
            d.negative,
            eq_true a.head.subject q.requester d.subject,
            eq_true a.head.object q.object d.object,
            eq_true a.head.mode q.mode d.mode,
          ) in
          (and_three (grants q) (not exempt) (anyb (bars q) b.authorizations)).1 (
            grants_by w.outside.kind,
            ap not (outside_exempt w.outside),
            mem_any (bars q) b.authorizations a d.stands
                (and_intro (denies q a.head) (overlap a.interval q.interval) h shared),
          )
