-- An accepted request on a sound base: the counts, the clock, the last label, and the owners, administrators
-- and referrers are sound after it. Who controls an object, or may refer to it, still does, unless that is
-- withdrawn.
use Rattle.std.specs.Prelude.{◌≡◌, refl, ◌≢◌, Bool, true, false, not, ◌&&◌, List, [], ◌∷◌, ℕ, suc, ◌≤◌, leb, ltb, eqb}
use Rattle.std.proofs.Common.{sym, ap, ◌∙◌, inl, inr, ⊎_elim, true≢false, arith}
use Rattle.std.proofs.lemmas.Bool.{false≢true}
use Rattle.foundation.specs.Tests.{cases, must_fail, not-true, ltb_trans, and_intro, or_cases, or_intro_left}
use Rattle.foundation.specs.Tests.{or_true_right, le-true, eq_true}
use Rattle.foundation.specs.Lists.{allb, Mem, any_mem, mem_any, all_mem}
use Rattle.model.specs.declared.Privilege.{Privilege}
use Rattle.model.specs.declared.Request.{Request}
use Rattle.model.specs.Ranges.{is_instant, last_label, is_object, is_subject}
use Rattle.model.specs.Base.{Base, privilege, is_privilege, exists, owns, administers, refers, controls}
use Rattle.model.specs.Requests.{NEW, GRANTADM, REVOKEADM, GRANTREF, REVOKEREF, is, labels, before}
use Rattle.model.specs.Means.{plainly}
use Rattle.model.specs.Step.{counts_hold, effect}
use Rattle.model.specs.Step.{Accepted}
use Rattle.model.specs.Soundness.{chained, privilege_in, owners_apart}
use Rattle.model.specs.SoundnessFacts.{Sound}
use Rattle.model.specs.Kinds.{object_kinds, subject_kinds, kind_is, is_kinds, is_apart}
use Rattle.laws.specs.Rows.{now_in, requester_in, object_in_lem, subject_in_lem, object-exists, object-new}
use Rattle.laws.specs.Rows.{not_administrator_lem, not_referrer_lem, counts_in_lem, label_left}
use Rattle.model.specs.SoundTests.{order_test, ranges_test, exist_test, owners_test}
use Rattle.laws.specs.Privileges.{before_cases, before-not, the_privilege, changed, changed-order}
use Rattle.laws.specs.Privileges.{changed-before, changed-mem, changed_all, changed-stays, listed-stays}

-- the request is of this kind, REVOKEADM or REVOKEREF, and names the object o and the subject u
abbrev pub loses : Request → ℕ → ℕ → ℕ → Bool
loses q kind o u = is q (kind ∷ []) && is_privilege q.object q.subject (privilege o u)

-- ---- after the request

module _ (b : Base) (q : Request) where
  abbrev after : Base
  after = effect plainly b q

  -- ---- who could, still can

  -- what exists or is owned, still is
  pub exists-stays : (o : ℕ) → exists b o ≡ true → exists after o ≡ true
  exists-stays o e =
      let w = any_mem (λ p. eqb p.object o) b.objects e in
      mem_any (λ p. eqb p.object o) after.objects w.0
      (changed-stays (is q (NEW ∷ [])) false q.object q.requester b.objects w.0
      (λ h. absurd (false≢true h)) w.1) w.2

  pub owns-stays : (o u : ℕ) → owns b o u ≡ true → owns after o u ≡ true
  owns-stays o u = listed-stays (is q (NEW ∷ [])) false q.object q.requester b.objects o u
      (λ h. absurd (false≢true h))

  -- unless the request withdraws it
  pub administers-stays : (o u : ℕ) → loses q REVOKEADM o u ≡ false →
      administers b o u ≡ true → administers after o u ≡ true
  administers-stays o u h = listed-stays (is q (GRANTADM ∷ [])) (is q (REVOKEADM ∷ [])) q.object
      q.subject
      b.administrators o u (λ k. rw k at h)

  pub refers-stays : (o u : ℕ) → loses q REVOKEREF o u ≡ false → refers b o u ≡ true → refers after o u ≡ true
  refers-stays o u h = listed-stays (is q (GRANTREF ∷ [])) (is q (REVOKEREF ∷ [])) q.object q.subject
      b.referrers o u (λ k. rw k at h)

  pub controls-stays : (o u : ℕ) → loses q REVOKEADM o u ≡ false → controls b o u ≡ true →
      controls after o u ≡ true
  controls-stays o u h e = or_cases (owns b o u) (administers b o u) e
      (λ k. or_intro_left (owns after o u) (administers after o u) (owns-stays o u k))
      (λ k. or_true_right (owns after o u) (administers after o u) (administers-stays o u h k))

  -- the last label does not fall
  pub last-stays : b.last ≤ after.last
  last-stays = cases (labels q) (λ k. rw k (omega arith)) (λ k. rw k (omega arith))

  -- ---- soundness

  module _ (s : Sound b) (g : Accepted b q) where
    pub counts-after : counts_hold after ≡ true
    counts-after = counts_in_lem b q g

    -- ---- clock and last label

    pub ranges_clock : is_instant after.clock ≡ true
    ranges_clock = now_in b q g

    pub ranges_last : leb after.last last_label ≡ true
    ranges_last = cases (labels q)
        (λ k. rw k (le-true (suc b.last) last_label (label_left b q g k)))
        (λ k. rw k (ranges_test b s _ (inr (inl refl))))

    -- ---- objects

    -- an object that is new is no old privilege's
    new_apart : is q (NEW ∷ []) ≡ true → (x : Privilege) → Mem x b.objects → x.object ≢ q.object
    new_apart k x m e = true≢false (sym (mem_any (λ p. eqb p.object q.object) b.objects x m
        (eq_true x.object q.object e)) ∙ object-new b q g k)

    pub order-objects : chained (λ p r. ltb p.object r.object) after.objects ≡ true
    order-objects = changed-order (is q (NEW ∷ [])) false q.object q.requester b.objects
        (λ p r. ltb p.object r.object)
        (λ x y z. ltb_trans x.object y.object z.object)
        (λ k x m e. le-true (suc q.object) x.object
        (before_cases (privilege q.object q.requester) x e
        (λ l. l) (λ i l. absurd (new_apart k x m (sym i)))))
        (λ k x m e. le-true (suc x.object) q.object
        (omega (arith, before-not (privilege q.object q.requester) x e, new_apart k x m)))
        (order_test b s _ (inl refl))

    pub ranges_objects : allb privilege_in after.objects ≡ true
    ranges_objects = changed_all (is q (NEW ∷ [])) false q.object q.requester b.objects privilege_in
        (λ k. and_intro (is_object q.object) (is_subject q.requester)
        (object_in_lem b q g (rw (kind_is q NEW k))) (requester_in b q g))
        (all_mem privilege_in b.objects (ranges_test b s _ (inr (inr (inl refl)))))

    -- who does not own an object that exists does not own it now: only an object that did not exist gets an
    -- owner
    not_owner_lem : (o u : ℕ) → exists b o ≡ true → owns b o u ≡ false → owns after o u ≡ false
    not_owner_lem o u e n = must_fail (owns b o u) (owns after o u) n
        (λ h. let w = any_mem (is_privilege o u) after.objects h in ⊎_elim
        (λ v. let same : o ≡ q.object =
        ap (λ (p : Privilege). p.object) (sym (the_privilege o u w.0 w.2) ∙ v.1) in
        absurd (true≢false (sym e ∙ ap (exists b) same ∙ object-new b q g v.0)))
        (λ m. mem_any (is_privilege o u) b.objects w.0 m w.2)
        (changed-mem (is q (NEW ∷ [])) false q.object q.requester b.objects w.0 w.1))

    -- ---- administrators and referrers alike

    -- a list in which the request's privilege is put, or of which it is left out
    module _ (given withdrawn : Bool) (ps : List Privilege)
        (grant : given ≡ true → is q (GRANTADM ∷ GRANTREF ∷ []) ≡ true) where
      abbrev those : List Privilege
      those = changed given withdrawn q.object q.subject ps

      given-exists : given ≡ true → exists b q.object ≡ true
      given-exists k = object-exists b q g (is_kinds q (GRANTADM ∷ GRANTREF ∷ []) object_kinds refl (grant k))
          (is_apart q (GRANTADM ∷ GRANTREF ∷ []) (NEW ∷ []) refl (grant k))

      ranges_those : allb privilege_in ps ≡ true → allb privilege_in those ≡ true
      ranges_those e = changed_all given withdrawn q.object q.subject ps privilege_in
          (λ k. and_intro (is_object q.object) (is_subject q.subject)
          (object_in_lem b q g (is_kinds q (GRANTADM ∷ GRANTREF ∷ []) object_kinds refl (grant k)))
          (subject_in_lem b q g (is_kinds q (GRANTADM ∷ GRANTREF ∷ []) subject_kinds refl (grant k))))
          (all_mem privilege_in ps e)

      exist_those : allb (λ p. exists b p.object) ps ≡ true →
          allb (λ p. exists after p.object) those ≡ true
      exist_those e = changed_all given withdrawn q.object q.subject ps (λ p. exists after p.object)
          (λ k. exists-stays q.object (given-exists k))
          (λ x m. exists-stays x.object (all_mem (λ p. exists b p.object) ps e x m))

      owners_those : allb (λ p. exists b p.object) ps ≡ true →
          allb (λ p. not (owns b p.object p.subject)) ps ≡ true →
          (given ≡ true → owns b q.object q.subject ≡ false) →
          allb (λ p. not (owns after p.object p.subject)) those ≡ true
      owners_those e n h = changed_all given withdrawn q.object q.subject ps
          (λ p. not (owns after p.object p.subject))
          (λ k. ap not (not_owner_lem q.object q.subject (given-exists k) (h k)))
          (λ x m. ap not (not_owner_lem x.object x.subject (all_mem (λ p. exists b p.object) ps e x m)
          (not-true (owns b x.object x.subject)
          (all_mem (λ p. not (owns b p.object p.subject)) ps n x m))))

    administrator : is q (GRANTADM ∷ []) ≡ true → is q (GRANTADM ∷ GRANTREF ∷ []) ≡ true
    administrator = is_kinds q (GRANTADM ∷ []) (GRANTADM ∷ GRANTREF ∷ []) refl

    referrer : is q (GRANTREF ∷ []) ≡ true → is q (GRANTADM ∷ GRANTREF ∷ []) ≡ true
    referrer = is_kinds q (GRANTREF ∷ []) (GRANTADM ∷ GRANTREF ∷ []) refl

    pub order_administrators : chained before after.administrators ≡ true
    order_administrators = changed-before (is q (GRANTADM ∷ [])) (is q (REVOKEADM ∷ [])) q.object
        q.subject
        b.administrators (order_test b s _ (inr (inl refl))) (λ k. (not_administrator_lem b q g k).1)

    pub order_referrers : chained before after.referrers ≡ true
    order_referrers = changed-before (is q (GRANTREF ∷ [])) (is q (REVOKEREF ∷ [])) q.object q.subject
        b.referrers (order_test b s _ (inr (inr (inl refl)))) (λ k. (not_referrer_lem b q g k).1)

    pub ranges_administrators : allb privilege_in after.administrators ≡ true
    ranges_administrators = ranges_those (is q (GRANTADM ∷ [])) (is q (REVOKEADM ∷ [])) b.administrators
        administrator (ranges_test b s _ (inr (inr (inr (inl refl)))))

    pub ranges_referrers : allb privilege_in after.referrers ≡ true
    ranges_referrers = ranges_those (is q (GRANTREF ∷ [])) (is q (REVOKEREF ∷ [])) b.referrers
        referrer (ranges_test b s _ (inr (inr (inr (inr (inl refl))))))

    pub exist_administrators : allb (λ p. exists after p.object) after.administrators ≡ true
    exist_administrators = exist_those (is q (GRANTADM ∷ [])) (is q (REVOKEADM ∷ [])) b.administrators
        administrator (exist_test b s _ (inl refl))

    pub exist_referrers : allb (λ p. exists after p.object) after.referrers ≡ true
    exist_referrers = exist_those (is q (GRANTREF ∷ [])) (is q (REVOKEREF ∷ [])) b.referrers
        referrer (exist_test b s _ (inr (inl refl)))

    pub owners_after : owners_apart after ≡ true
    owners_after = and_intro
        (allb (λ p. not (owns after p.object p.subject)) after.administrators)
        (allb (λ p. not (owns after p.object p.subject)) after.referrers)
        (owners_those (is q (GRANTADM ∷ [])) (is q (REVOKEADM ∷ [])) b.administrators administrator
        (exist_test b s _ (inl refl)) (owners_test b s _ (inl refl)) (λ k. (not_administrator_lem b q g k).0))
        (owners_those (is q (GRANTREF ∷ [])) (is q (REVOKEREF ∷ [])) b.referrers referrer
        (exist_test b s _ (inr (inl refl))) (owners_test b s _ (inr (inl refl)))
        (λ k. (not_referrer_lem b q g k).0))
