-- On a sound base it is the same to restrict the authorizations on the named object and mode, as 01 says, and
-- to restrict all: `restrict-all`. What a request takes is affected, so that an authorization which is not
-- affected keeps its chains.
use Rattle.std.specs.Prelude.{◌≡◌, refl, ◌≢◌, ℕ, true, false, not, ◌&&◌, ◌||◌, List, [], ◌∷◌, eqb}
use Rattle.std.proofs.Common.{sym, ap, ◌∙◌, inl, inr}
use Rattle.std.proofs.lemmas.Bool.{false≢true}
use Rattle.foundation.specs.Tests.{pick, cases, must_fail, false_eq, eq_true, ne_false, and-true, and_intro}
use Rattle.foundation.specs.Lists.{anyb, keep_if, Mem, mem_any, keep_if-mem, kept, conjunct}
use Rattle.foundation.specs.Intervals.{in_interval}
use Rattle.model.specs.declared.Head.{Head}
use Rattle.model.specs.declared.Authorization.{Authorization}
use Rattle.model.specs.declared.Request.{Request}
use Rattle.model.specs.Base.{Base}
use Rattle.model.specs.Support.{same_object_and_mode, supported, live, root}
use Rattle.model.proofs.SupportChains.{supported-chain}
use Rattle.model.proofs.SupportFacts.{mem-live, live-mem, chain_local}
use Rattle.model.specs.Withdrawal.{restrict}
use Rattle.model.specs.Requests.{REVOKE, REVOKEP, REVOKEN, REVOKEADM, is, withdraws, root_after, names, takes}
use Rattle.model.specs.Requests.{leave, affects}
use Rattle.model.specs.Means.{plainly}
use Rattle.model.specs.Step.{effect}
use Rattle.model.specs.SoundnessFacts.{Sound}
use Rattle.model.proofs.SurvivalFacts.{takes_eq, affects_eq}
use Rattle.model.specs.Kinds.{is_apart}
use Rattle.laws.specs.KeepFacts.{live-keep, keep_cong}
use Rattle.laws.specs.SoundFacts.{all_supported_lem}
use Rattle.laws.specs.SoundPrivileges.{controls-stays}
use Rattle.laws.specs.AuthorizationsAfter.{withdrawn_authorizations}

-- ---- what is taken is affected

-- the request takes t out of an authorization with the head k, and h is on the same object and mode
module _ (xs : List Authorization) (q : Request) (k h : Head) (t : ℕ) (a : Authorization) (m : Mem a xs)
    (head : a.head ≡ k) (object : k.object ≡ h.object) (mode : k.mode ≡ h.mode) where
  takes-affects : takes q k t ≡ true → affects xs q h ≡ true
  takes-affects e = rw (affects_eq xs q h) (cases (is q (REVOKE ∷ []))
      (λ r. rw r (by_label (rw (takes_eq q k t, r) at e)))
      (λ r. cases (is q (REVOKEP ∷ REVOKEN ∷ []))
      (λ p. rw (r, p) (by_name_lem (rw (takes_eq q k t, r, p) at e)))
      (λ p. cases (is q (REVOKEADM ∷ []))
      (λ d. rw (r, p, d) (by_grantor_lem (rw (takes_eq q k t, r, p, d) at e)))
      (λ d. absurd (false≢true (rw (takes_eq q k t, r, p, d) at e))))))
    where
      by_label : eqb k.label q.label ≡ true →
          anyb (λ a. eqb a.head.label q.label && same_object_and_mode a.head h) xs ≡ true
      by_label l = mem_any (λ a. eqb a.head.label q.label && same_object_and_mode a.head h) xs a m
          (rw head (and_intro (eqb k.label q.label) (same_object_and_mode k h) l
          (rw (eq_true k.object h.object object, eq_true k.mode h.mode mode))))

      by_name_lem : names q k && in_interval q.interval t ≡ true →
          eqb h.object q.object && eqb h.mode q.mode ≡ true
      by_name_lem l =
          let n = conjunct
          (eqb k.grantor q.requester
          ∷ eqb k.subject q.subject
          ∷ eqb k.object q.object
          ∷ eqb k.mode q.mode
          ∷ pick (is q (REVOKEN ∷ [])) k.negative (not k.negative)
          ∷ []) (and-true (names q k) (in_interval q.interval t) l).0 in
          rw (← object, ← mode) (and_intro (eqb k.object q.object) (eqb k.mode q.mode)
          (n _ (inr (inr (inl refl)))) (n _ (inr (inr (inr (inl refl))))))

      by_grantor_lem : eqb k.object q.object && eqb k.grantor q.subject ≡ true →
          eqb h.object q.object ≡ true
      by_grantor_lem l = rw (← object) (and-true (eqb k.object q.object)
          (eqb k.grantor q.subject) l).0

-- ---- roots

module _ (b : Base) (q : Request) where
  -- a root stays one, but for an administrator's on the object that REVOKEADM names
  pub roots_stay : (h : Head) → (is q (REVOKEADM ∷ []) ≡ true → h.object ≢ q.object) → root b h ≡ true →
      root_after b q h ≡ true
  roots_stay h other = controls-stays b q h.object h.grantor
      (cases (is q (REVOKEADM ∷ []))
      (λ d. rw (d, ne_false h.object q.object (other d)))
      (λ d. rw d))

  -- what REVOKEADM does not affect is on another object
  not_affected : (h : Head) → affects b.authorizations q h ≡ false → is q (REVOKEADM ∷ []) ≡ true →
      h.object ≢ q.object
  not_affected h f d = false_eq h.object q.object
      (rw (
        affects_eq b.authorizations q h,
        is_apart q (REVOKEADM ∷ []) (REVOKE ∷ []) refl d,
        is_apart q (REVOKEADM ∷ []) (REVOKEP ∷ REVOKEN ∷ []) refl d,
        d,
      ) at f)

-- ---- the whole

-- an authorization that is left and not affected is supported at each of its instants
left_supported : (b : Base) (q : Request) → Sound b → (t : ℕ) (h : Head) →
    Mem h (live t (leave q b.authorizations)) → affects b.authorizations q h ≡ false →
    supported (root_after b q) (live t (leave q b.authorizations)) h ≡ true
unfolding leave
left_supported b q s t h m f =
    let xs = b.authorizations in
    let l = live-keep (λ h t. not (takes q h t)) xs t in
    let n : Mem h (keep_if (λ k. not (takes q k t)) (live t xs)) = rw l at m in
    let e = all_supported_lem b s t h (kept (λ k. not (takes q k t)) (live t xs) h n).0 in
    rw l ((supported-chain (root_after b q) (keep_if (λ k. not (takes q k t)) (live t xs)) h).1
    (chain_local (root b) (root_after b q) (live t xs) (keep_if (λ k. not (takes q k t)) (live t xs)) h
    ((supported-chain (root b) (live t xs) h).0 e)
    stay
    (λ k o d r. roots_stay b q k (λ z y. not_affected b q h f z (sym o ∙ y)) r)))
  where
    stay : (k : Head) → k.object ≡ h.object → k.mode ≡ h.mode → Mem k (live t b.authorizations) →
        Mem k (keep_if (λ k. not (takes q k t)) (live t b.authorizations))
    stay k o d n = keep_if-mem (λ k. not (takes q k t)) (live t b.authorizations) k n
        (ap not (must_fail (affects b.authorizations q h) (takes q k t) f
        (λ e. let a = live-mem t b.authorizations k n in
        takes-affects b.authorizations q k h t a.0 a.1 a.2 o d e)))

-- restricting the affected authorizations is restricting all
pub restrict_all : (b : Base) (q : Request) → Sound b →
    restrict (root_after b q) (affects b.authorizations q) (leave q b.authorizations)
    ≡ restrict (root_after b q) (λ h. true) (leave q b.authorizations)
unfolding restrict
restrict_all b q s =
    let ys = leave q b.authorizations in
    keep_cong (λ h t. not (affects b.authorizations q h) || supported (root_after b q) (live t ys) h)
    (λ h t. supported (root_after b q) (live t ys) h) ys
    (λ a m t e. cases (affects b.authorizations q a.head)
    (λ f. rw f)
    (λ f. rw (f, left_supported b q s t a.head (mem-live t ys a m e) f)))

-- what a withdrawal leaves
pub withdrawn_all : (b : Base) (q : Request) → Sound b → withdraws q ≡ true →
    (effect plainly b q).authorizations ≡ restrict (root_after b q) (λ h. true) (leave q b.authorizations)
withdrawn_all b q s w = withdrawn_authorizations b q w ∙ restrict_all b q s
