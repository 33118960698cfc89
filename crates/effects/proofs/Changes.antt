-- The changes that take no label: a privilege put in, one taken out, and rules dropped, behind the clock.
-- Assumes nothing.
use mathlib.Core.Path.{◌≡◌, refl, sym, ap, ◌∙◌}
use mathlib.Core.Logic.{inl, inr}
use Prim.Native.Nat.{ℕ, ◌≤◌, ◌<◌}
use native.Mathlib.Omega.{arith}
use mathlib.Core.Bool.{Bool, true, false, not}
use mathlib.Core.List.{List, [], ◌∷◌}
use lib.Dec.{eqb}
use lib.ListN.{length}
use Rattle.foundation.specs.Tests.{must_pass, or_true}
use Rattle.foundation.specs.Lists.{anyb, allb, keep_if, kept, kept_length, length-insert_at}
use Rattle.model.specs.declared.Privilege.{Privilege}
use Rattle.model.specs.declared.Rule.{Rule}
use Rattle.model.specs.declared.Request.{Request}
use Rattle.model.specs.Ranges.{most_objects}
use Rattle.model.specs.Base.{Base, privilege, is_privilege, listed, administers, refers}
use Rattle.model.specs.Encoding.{encode, decode}
use Rattle.model.specs.FitsFacts.{BaseFits, PrivilegeFits, object-fits, subject-fits}
use Rattle.model.specs.Soundness.{chained}
use Rattle.model.specs.SoundTests.{order_test}
use Rattle.model.specs.SoundnessFacts.{Sound}
use Rattle.model.specs.Requests.{REVOKEADM, REVOKEREF, is, before, insert, without}
use Rattle.model.specs.Means.{plainly}
use Rattle.model.specs.Step.{effect, not_held}
use Rattle.model.specs.Kinds.{is_kinds, object_kinds, subject_kinds}
use Rattle.laws.specs.Rows.{requester_in, object_in_lem, subject_in_lem}
use Rattle.edits.specs.declared.PrivilegeBody.{PrivilegeBody}
use Rattle.edits.specs.declared.PrivilegeBody.TheVariants.{Objects, Administrators, Referrers}
use Rattle.edits.specs.Edits.{Written, with_stamp, with_privileges, privileges_of}
use Rattle.model.specs.Effects.{with_rules, with_referrers}
use Rattle.edits.proofs.Kept.{fits_clock, fits-privileges}
use Rattle.effects.specs.EffectRecords.{Allowed, drops_by, first_index}
use Rattle.effects.proofs.AllowedEffects.{HoldsBase, holds-base, stamped, allowed-sound}
use Rattle.effects.proofs.AllowedEffects.{allowed-written, after-fits, effect_referrer}
use Rattle.effects.proofs.PrivilegePlaces.{insert-place}

-- ---- one body of privileges

privileges-most : (k : PrivilegeBody) (b : Base) → BaseFits b → length (privileges_of k b) ≤ most_objects
privileges-most Objects b f = f.counts.objects
privileges-most Administrators b f = f.counts.administrators
privileges-most Referrers b f = f.counts.referrers

privileges_got : (k : PrivilegeBody) (ps : List Privilege) (b : Base) →
    privileges_of k (with_privileges k ps b) ≡ ps
privileges_got Objects ps b = refl
privileges_got Administrators ps b = refl
privileges_got Referrers ps b = refl

privileges-stay : (k : PrivilegeBody) (clock last : ℕ) (b : Base) →
    privileges_of k (with_stamp clock last b) ≡ privileges_of k b
privileges-stay Objects clock last b = refl
privileges-stay Administrators clock last b = refl
privileges-stay Referrers clock last b = refl

-- ---- behind the clock

module _ (kinds : List ℕ) (s : List ℕ) (q : Request) (a : Allowed kinds s q) where
  -- the privilege that the request names
  pub named-fits : allb (λ k. anyb (eqb k) object_kinds) kinds ≡ true →
      allb (λ k. anyb (eqb k) subject_kinds) kinds ≡ true →
      PrivilegeFits (privilege q.object q.subject)
  named-fits h l = record {
    object = object-fits q.object (object_in_lem (decode s) q a.accepted
        (is_kinds q kinds object_kinds h a.kind));
    subject = subject-fits q.subject (subject_in_lem (decode s) q a.accepted
        (is_kinds q kinds subject_kinds l a.kind));
  }

  pub owner_fits : allb (λ k. anyb (eqb k) object_kinds) kinds ≡ true →
      PrivilegeFits (privilege q.object q.requester)
  owner_fits h = record {
    object = object-fits q.object (object_in_lem (decode s) q a.accepted
        (is_kinds q kinds object_kinds h a.kind));
    subject = subject-fits q.requester (requester_in (decode s) q a.accepted);
  }

  abbrev clocked : Base
  clocked = with_stamp q.now (decode s).last (decode s)

  module _ (s₁ : List ℕ) (e₁ : s₁ ≡ encode (with_stamp q.now (decode s).last (decode s))) where
    pub clock_holds : HoldsBase (with_stamp q.now (decode s).last (decode s)) s₁
    clock_holds = stamped s q.now (decode s).last (allowed-written kinds s q a)
        (after-fits kinds s q a).clock
        (allowed-written kinds s q a).fits.last s₁ e₁

    -- rules dropped
    pub rules_done : (k : Rule → Bool) → effect plainly (decode s) q
        ≡ with_rules (keep_if k (decode s).rules) (with_stamp q.now (decode s).last (decode s)) →
        (s₂ : List ℕ) → s₂ ≡ encode (with_rules (keep_if k (decode s₁).rules) (decode s₁)) →
        s₂ ≡ encode (effect plainly (decode s) q)
    rules_done k e s₂ e₂ =
        e₂ ∙ ap (λ (b : Base). encode (with_rules (keep_if k b.rules) b)) clock_holds.base
        ∙ ap encode (sym e)

    -- a privilege put in
    module _ (k : PrivilegeBody) (p : Privilege) (e : effect plainly (decode s) q
        ≡ with_privileges k (insert p (privileges_of k (decode s)))
        (with_stamp q.now (decode s).last (decode s))) where
      pub put-room : Written s₁ × (length (privileges_of k (decode s₁)) < most_objects)
      put-room =
          let ps = privileges_of k (decode s) in
          let l = ap length (ap (privileges_of k) clock_holds.base
          ∙ privileges-stay k q.now (decode s).last (decode s)) in
          let m = privileges-most k (effect plainly (decode s) q) (after-fits kinds s q a) in
          let g = ap length (ap (privileges_of k) e ∙ privileges_got k (insert p ps) clocked
          ∙ insert-place p ps)
          ∙ length-insert_at (first_index (before p) ps) p ps in
          (clock_holds.written, omega (arith, l, m, g))

      pub put-done : (s₂ : List ℕ) →
          s₂ ≡ encode (with_privileges k (insert p (privileges_of k (decode s₁))) (decode s₁)) →
          s₂ ≡ encode (effect plainly (decode s) q)
      put-done s₂ e₂ =
          e₂
          ∙ ap (λ (b : Base). encode (with_privileges k (insert p (privileges_of k b)) b)) clock_holds.base
          ∙ ap (λ (ps : List Privilege). encode (with_privileges k (insert p ps) clocked))
          (privileges-stay k q.now (decode s).last (decode s))
          ∙ ap encode (sym e)

-- ---- REVOKEADM and REVOKEREF: what is taken out is there, in order

pub administrator_there : (b : Base) (q : Request) → Sound b → is q (REVOKEADM ∷ []) ≡ true →
    not_held b q ≡ false →
    (chained before b.administrators ≡ true) × (listed b.administrators q.object q.subject ≡ true)
administrator_there b q s k h = (
  order_test b s _ (inr (inl refl)),
  must_pass (not_held b q) (administers b q.object q.subject) h (λ e. rw (k, e)),
)

pub referrer_there_lem : (s : List ℕ) (q : Request) → Allowed (REVOKEREF ∷ []) s q →
    (chained before (decode s).referrers ≡ true)
    × (listed (decode s).referrers q.object q.subject ≡ true)
referrer_there_lem s q a = (
  order_test (decode s) (allowed-sound (REVOKEREF ∷ []) s q a) _ (inr (inr (inl refl))),
  must_pass (not_held (decode s) q) (refers (decode s) q.object q.subject) a.accepted.held
      (λ e. rw (a.kind, e, or_true)),
)

-- ---- REVOKEREF, step by step: the clock, the privilege, the rules

module _ (s : List ℕ) (q : Request) (a : Allowed (REVOKEREF ∷ []) s q) (p : Privilege)
    (n : p ≡ privilege q.object q.subject)
    (s₁ : List ℕ) (e₁ : s₁ ≡ encode (with_stamp q.now (decode s).last (decode s))) where
  abbrev left : Base
  left = with_referrers (without q.object q.subject (decode s).referrers)
      (with_stamp q.now (decode s).last (decode s))

  clock_left : HoldsBase (with_stamp q.now (decode s).last (decode s)) s₁
  clock_left = clock_holds (REVOKEREF ∷ []) s q a s₁ e₁

  pub revoke_ready : Written s₁ × (chained before (decode s₁).referrers ≡ true)
      × (listed (decode s₁).referrers p.object p.subject ≡ true)
  revoke_ready =
      let t = referrer_there_lem s q a in (
        clock_left.written,
        ap (λ (b : Base). chained before b.referrers) clock_left.base ∙ t.0,
        (λ j. listed (clock_left.base j).referrers (n j).object (n j).subject) ∙ t.1,
      )

  module _ (s₂ : List ℕ)
      (e₂ : s₂ ≡ encode (with_referrers (without p.object p.subject (decode s₁).referrers) (decode s₁)))
    where
      pub revoke_holds : HoldsBase (with_referrers (without q.object q.subject (decode s).referrers)
          (with_stamp q.now (decode s).last (decode s))) s₂
      revoke_holds =
          let W = allowed-written (REVOKEREF ∷ []) s q a in
          let f = fits_clock q.now (decode s).last (decode s) W.fits
          (after-fits (REVOKEREF ∷ []) s q a).clock
          W.fits.last in
          let t : Privilege → Bool = λ x. not (is_privilege q.object q.subject x) in
          holds-base left s₂
          (fits-privileges Referrers (without q.object q.subject (decode s).referrers)
          (with_stamp q.now (decode s).last (decode s)) f
          (omega (arith, kept_length t (decode s).referrers, W.fits.counts.referrers))
          (λ x m. W.fits.referrers x (kept t (decode s).referrers x m).0))
          (e₂ ∙ (λ j. encode (with_referrers
          (without (n j).object (n j).subject (clock_left.base j).referrers)
          (clock_left.base j))))

      pub revoke_done : (x : Bool) → x ≡ administers (decode s) q.object q.subject → (s₃ : List ℕ) →
          s₃ ≡ encode (with_rules (keep_if (λ r. not (drops_by false x q r)) (decode s₂).rules) (decode s₂)) →
          s₃ ≡ encode (effect plainly (decode s) q)
      revoke_done x g s₃ e₃ =
          e₃
          ∙ (λ j. encode (with_rules (keep_if (λ r. not (drops_by false (g j) q r))
          (revoke_holds.base j).rules)
          (revoke_holds.base j)))
          ∙ ap encode (sym (effect_referrer (decode s) q false a.kind))
