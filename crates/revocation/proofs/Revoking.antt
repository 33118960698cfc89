-- What a withdrawing request leaves, step by step: the authorizations that are built of the lent bodies, and
-- the edits that make the bytes of its effect. Assumes nothing.
use mathlib.Core.Path.{◌≡◌, refl, sym, ap, ◌∙◌, subst}
use mathlib.Core.Logic.{inl, inr}
use Prim.Native.Nat.{ℕ, suc, ◌*◌, ◌≤◌, ◌<◌}
use native.Mathlib.Omega.{arith}
use mathlib.Core.Bool.{Bool, true, false, not}
use mathlib.Core.List.{List, [], ◌∷◌}
use lib.ListN.{length, take}
use Rattle.foundation.specs.Tests.{pick, le-true, le-false}
use Rattle.foundation.specs.Lists.{Mem, each, keep_if, kept, kept_length}
use Rattle.model.specs.declared.Privilege.{Privilege}
use Rattle.model.specs.declared.Authorization.{Authorization}
use Rattle.model.specs.declared.Rule.{Rule}
use Rattle.model.specs.declared.Request.{Request}
use Rattle.model.specs.declared.Reply.TheVariants.{Done, Refused}
use Rattle.model.specs.Ranges.{most_authorizations}
use Rattle.model.specs.Base.{Base, privilege, is_privilege, listed, refers}
use Rattle.model.specs.Encoding.{authorization_bytes, encode, decode}
use Rattle.model.specs.FitsFacts.{BaseFits, PrivilegeFits, AuthorizationFits}
use Rattle.model.specs.Soundness.{chained}
use Rattle.model.specs.Support.{root_in}
use Rattle.model.specs.Withdrawal.{keep, restrict}
use Rattle.model.specs.Requests.{NEW, REVOKE, REVOKEP, REVOKEN, ADDRULE, DROPRULE, GRANTADM, REVOKEADM}
use Rattle.model.specs.Requests.{GRANTREF, REVOKEREF, is, withdraws, before, without, objects_after}
use Rattle.model.specs.Requests.{administrators_after}
use Rattle.model.specs.Means.{plainly}
use Rattle.model.specs.Step.{effect, full, accepting}
use Rattle.model.specs.SoundnessFacts.{Sound, decoded-sound}
use Rattle.model.specs.Kinds.{kind_is, is_apart, is_kinds, object_kinds, subject_kinds, label_kinds}
use Rattle.model.specs.Kinds.{withdrawal_kinds}
use Rattle.encoding.specs.Format.{authorizations_in}
use Rattle.edits.specs.declared.PrivilegeBody.TheVariants.{Administrators}
use Rattle.edits.specs.Edits.{Written, with_stamp}
use Rattle.edits.proofs.Written.{written-sound}
use Rattle.model.specs.Effects.{with_administrators, with_authorizations, with_rules}
use Rattle.edits.proofs.Kept.{fits-privileges, fits-authorizations, fits_rules}
use Rattle.pieces.specs.declared.cut.Cut.{Cut}
use Rattle.pieces.specs.Cuts.{spared, CutOf}
use Rattle.withdrawal.proofs.Link.{withdrawn_is}
use Rattle.effects.specs.EffectRecords.{Allowed, drops_by}
use Rattle.effects.proofs.AllowedEffects.{HoldsBase, holds-base, after-fits}
use Rattle.effects.proofs.Changes.{administrator_there}
use Rattle.revocation.specs.CarriedOut.{PassesEarly, CarriedOut}
use Rattle.revocation.proofs.CarriedFacts.{passed_row, passed_accepted}
use Rattle.revocation.proofs.Revoked.{object-most, subject-most, withdrawal_full}

pub passed_sound : (s : List ℕ) (q : Request) → PassesEarly s q → Sound (decode s)
passed_sound s q p = decoded-sound s p.sound

-- what is built is what the request leaves
pub remains : (b : Base) (q : Request) → Sound b → withdraws q ≡ true → (c : Cut) → CutOf q c →
    (objects administrators : List Privilege) → objects ≡ objects_after q b.objects →
    administrators ≡ administrators_after q b.administrators →
    restrict (root_in objects administrators) (λ h. true) (keep (spared c) b.authorizations)
    ≡ (effect plainly b q).authorizations
remains b q h w c f os as' o d =
    (λ i. restrict (root_in (o i) (d i)) (λ h. true) (keep (spared c) b.authorizations))
    ∙ sym (withdrawn_is b q c h w f)

-- ---- by what was built

-- the authorizations ys remain, and row 13 lets the request pass
pub record AuthorizationsLeft (s : List ℕ) (q : Request) (ys : List Authorization) : Type 0 where
  pub are : ys ≡ (effect plainly (decode s) q).authorizations
  pub room : full plainly (decode s) q ≡ false
  pub fits : (a : Authorization) → Mem a (effect plainly (decode s) q).authorizations → AuthorizationFits a

module _ (s : List ℕ) (q : Request) (p : PassesEarly s q) (w : withdraws q ≡ true) where
  abbrev after : Base
  after = effect plainly (decode s) q

  -- too many: row 13
  pub carried_full : 1024 < length (effect plainly (decode s) q).authorizations → CarriedOut s q (Refused 13) s
  carried_full h =
      let f : full plainly (decode s) q ≡ true =
      withdrawal_full (decode s) q (passed_sound s q p) w ∙ le-true 1025 (length after.authorizations) h in
      record {
        reply = ap (λ (x : Bool). pick x (Refused 13) (accepting (decode s) q after)) (sym f);
        bytes = ap (λ (x : Bool). pick x s (encode after)) (sym f);
      }

  pub lines_left_lem : (ys : List Authorization) → ys ≡ (effect plainly (decode s) q).authorizations →
      length ys ≤ 1024 → AuthorizationsLeft s q ys
  lines_left_lem ys e l =
      let f : full plainly (decode s) q ≡ false =
      withdrawal_full (decode s) q (passed_sound s q p) w
      ∙ le-false 1025 (length after.authorizations)
      (omega (arith, ap (λ (x : List Authorization). length x) e)) in
      let a : Allowed withdrawal_kinds s q =
      record { sound = p.sound; accepted = passed_accepted s q p f; kind = w } in
      record { are = e; room = f; fits = (after-fits withdrawal_kinds s q a).authorizations }

-- the bytes of the effect
pub carried_done : (s : List ℕ) (q : Request) → withdraws q ≡ true → (ys : List Authorization) →
    AuthorizationsLeft s q ys → (m : ℕ) → m ≡ length ys →
    (s' : List ℕ) → s' ≡ encode (effect plainly (decode s) q) → CarriedOut s q (Done 0 m) s'
carried_done s q w ys l m g s' e =
    let after = effect plainly (decode s) q in
    let n = sym (is_apart q withdrawal_kinds label_kinds refl w) in
    let k : m ≡ length after.authorizations = g ∙ ap (λ (x : List Authorization). length x) l.are in
    record {
      reply = (λ i. Done (pick (n i) (suc (decode s).last) 0) (k i))
          ∙ ap (λ (x : Bool). pick x (Refused 13) (accepting (decode s) q after)) (sym l.room);
      bytes = e ∙ ap (λ (x : Bool). pick x s (encode after)) (sym l.room);
    }

-- ---- the authorizations put into the bytes t, and the clock set

module _ (t : List ℕ) (W : Written t) (s : List ℕ) (q : Request) (ys : List Authorization)
    (l : AuthorizationsLeft s q ys) (h : length ys ≤ 1024) (m : ℕ) (n : m ≡ length ys) (out : List ℕ)
    (r : authorizations_in (length ys) out ≡ ys) where
  own : authorizations_in m out ≡ ys
  own = ap (λ (k : ℕ). authorizations_in k out) n ∙ r

  pub replace_ready : length out ≡ 24576 → take (24 * length ys) out ≡ each ys authorization_bytes →
      Written t × (m ≤ most_authorizations) × (m * 24 ≤ length out)
      × (take (24 * m) out ≡ each (authorizations_in m out) authorization_bytes)
  replace_ready g c = (
    W,
    omega (arith, h, n),
    omega (arith, h, n, g),
    ap (λ (k : ℕ). take (24 * k) out) n ∙ c
        ∙ ap (λ (x : List Authorization). each x authorization_bytes) (sym own),
  )

  module _ (t₁ : List ℕ) (e₁ : t₁ ≡ encode (with_authorizations (authorizations_in m out) (decode t))) where
    pub replaced_holds : HoldsBase (with_authorizations (effect plainly (decode s) q).authorizations
        (decode t))
        t₁
    replaced_holds =
        let zs = (effect plainly (decode s) q).authorizations in
        holds-base (with_authorizations zs (decode t)) t₁
        (fits-authorizations zs (decode t) W.fits
        (omega (arith, h, ap (λ (x : List Authorization). length x) l.are))
        l.fits)
        (e₁ ∙ ap (λ (x : List Authorization). encode (with_authorizations x (decode t))) (own ∙ l.are))

    pub clocked : (clock : ℕ) (t₂ : List ℕ) → t₂ ≡ encode (with_stamp clock (decode t₁).last (decode t₁)) →
        t₂ ≡ encode (with_stamp clock (decode t).last
        (with_authorizations (effect plainly (decode s) q).authorizations (decode t)))
    clocked clock t₂ e₂ = e₂ ∙ ap (λ (b : Base). encode (with_stamp clock b.last b)) replaced_holds.base

-- ---- REVOKE, REVOKEP and REVOKEN

abbrev named_kinds : List ℕ
named_kinds = REVOKE ∷ REVOKEP ∷ REVOKEN ∷ []

pub named-withdraws : (q : Request) → is q (REVOKE ∷ REVOKEP ∷ REVOKEN ∷ []) ≡ true → withdraws q ≡ true
named-withdraws q k = is_kinds q named_kinds withdrawal_kinds refl k

pub effect-named : (b : Base) (q : Request) → is q (REVOKE ∷ REVOKEP ∷ REVOKEN ∷ []) ≡ true →
    effect plainly b q ≡ with_stamp q.now b.last
    (with_authorizations (effect plainly b q).authorizations b)
effect-named b q k = rw (
  is_apart q named_kinds label_kinds refl k,
  is_apart q named_kinds (DROPRULE ∷ REVOKEADM ∷ REVOKEREF ∷ []) refl k,
  is_apart q named_kinds (NEW ∷ []) refl k,
  is_apart q named_kinds (GRANTADM ∷ []) refl k,
  is_apart q named_kinds (REVOKEADM ∷ []) refl k,
  is_apart q named_kinds (GRANTREF ∷ []) refl k,
  is_apart q named_kinds (REVOKEREF ∷ []) refl k,
  is_apart q named_kinds (ADDRULE ∷ []) refl k,
)

-- who owns and who administers stays
pub named-objects : (q : Request) (ps : List Privilege) → is q (REVOKE ∷ REVOKEP ∷ REVOKEN ∷ []) ≡ true →
    ps ≡ objects_after q ps
named-objects q ps k = rw (is_apart q named_kinds (NEW ∷ []) refl k)

pub named_administrators : (q : Request) (ps : List Privilege) →
    is q (REVOKE ∷ REVOKEP ∷ REVOKEN ∷ []) ≡ true →
    ps ≡ administrators_after q ps
named_administrators q ps k =
    rw (is_apart q named_kinds (GRANTADM ∷ []) refl k, is_apart q named_kinds (REVOKEADM ∷ []) refl k)

-- ---- REVOKEADM

pub administrator_withdraws : (q : Request) → is q (REVOKEADM ∷ []) ≡ true → withdraws q ≡ true
administrator_withdraws q k = is_kinds q (REVOKEADM ∷ []) withdrawal_kinds refl k

pub effect_administrator : (b : Base) (q : Request) → is q (REVOKEADM ∷ []) ≡ true →
    effect plainly b q ≡ with_stamp q.now b.last (with_authorizations (effect plainly b q).authorizations
    (with_rules (keep_if (λ r. not (drops_by (refers b q.object q.subject) false q r)) b.rules)
    (with_administrators (without q.object q.subject b.administrators) b)))
effect_administrator b q k = rw (kind_is q REVOKEADM k)

module _ (s : List ℕ) (q : Request) (p : PassesEarly s q) (k : is q (REVOKEADM ∷ []) ≡ true) where
  abbrev old : Base
  old = decode s

  pub named_privilege : PrivilegeFits (privilege q.object q.subject)
  named_privilege =
      let o = passed_row s q p _ (inl refl) in record {
        object = omega (arith, object-most q o (is_kinds q (REVOKEADM ∷ []) object_kinds refl k));
        subject = omega (arith, subject-most q o (is_kinds q (REVOKEADM ∷ []) subject_kinds refl k));
      }

  -- the privilege can be taken out of s and out of a copy of it
  pub remove_ready : (s₀ : List ℕ) → s₀ ≡ s → Written s₀ × PrivilegeFits (privilege q.object q.subject)
      × (chained before (decode s₀).administrators ≡ true)
      × (listed (decode s₀).administrators q.object q.subject ≡ true)
  remove_ready s₀ e =
      let t = administrator_there old q (passed_sound s q p) k
      (passed_row s q p _ (inr (inr (inr (inr (inr (inr (inr (inr (inr (inl refl))))))))))) in
      rw e (written-sound s p.sound, named_privilege, t.0, t.1)

  module _ (s₁ : List ℕ) (e₁ : s₁
      ≡ encode (with_administrators (without q.object q.subject (decode s).administrators) (decode s)))
    where
      pub removed_holds :
          HoldsBase (with_administrators (without q.object q.subject (decode s).administrators)
          (decode s))
          s₁
      removed_holds =
          let W = written-sound s p.sound in
          let t : Privilege → Bool = λ x. not (is_privilege q.object q.subject x) in
          holds-base (with_administrators (without q.object q.subject old.administrators) old) s₁
          (fits-privileges Administrators (without q.object q.subject old.administrators) old
          W.fits
          (omega (arith, kept_length t old.administrators, W.fits.counts.administrators))
          (λ x m. W.fits.administrators x (kept t old.administrators x m).0)) e₁

      -- who owns and who administers after it
      pub roots_objects : (decode s₁).objects ≡ objects_after q (decode s).objects
      roots_objects = ap (λ (b : Base). b.objects) removed_holds.base ∙ sym (rw (kind_is q REVOKEADM k))

      pub roots_administrators : (decode s₁).administrators ≡ administrators_after q (decode s).administrators
      roots_administrators =
          ap (λ (b : Base). b.administrators) removed_holds.base ∙ sym (rw (kind_is q REVOKEADM k))

      module _ (x : Bool) (h : x ≡ refers (decode s) q.object q.subject) (s₂ : List ℕ)
          (e₂ : s₂ ≡ encode (with_rules (keep_if (λ r. not (drops_by x false q r)) (decode s₁).rules)
          (decode s₁))) where
        abbrev stay : Rule → Bool
        stay r = not (drops_by (refers (decode s) q.object q.subject) false q r)

        pub dropped : HoldsBase (with_rules
            (keep_if (λ r. not (drops_by (refers (decode s) q.object q.subject) false q r))
            (decode s).rules)
            (with_administrators (without q.object q.subject (decode s).administrators) (decode s))) s₂
        dropped =
            let W = removed_holds.written in
            let B = with_administrators (without q.object q.subject old.administrators) old in
            let F : BaseFits B = subst (λ (b : Base). BaseFits b) removed_holds.base W.fits in
            holds-base (with_rules (keep_if stay old.rules) B) s₂
            (fits_rules (keep_if stay old.rules) B F
            (omega (arith, kept_length stay old.rules, F.counts.rules))
            (λ r m. F.rules r (kept stay old.rules r m).0))
            (e₂ ∙ (λ i. encode (with_rules (keep_if (λ r. not (drops_by (h i) false q r))
            (removed_holds.base i).rules)
            (removed_holds.base i))))

        pub administrator_done : (s₄ : List ℕ) → s₄ ≡ encode (with_stamp q.now (decode s₂).last
            (with_authorizations (effect plainly (decode s) q).authorizations (decode s₂))) →
            s₄ ≡ encode (effect plainly (decode s) q)
        administrator_done s₄ e₄ =
            e₄
            ∙ ap (λ (b : Base). encode (with_stamp q.now b.last
            (with_authorizations (effect plainly (decode s) q).authorizations b))) dropped.base
            ∙ ap encode (sym (effect_administrator old q k))
