-- An accepted request on a sound base leaves authorizations that are supported at each of their instants:
-- `support-after`.
use Rattle.std.specs.Prelude.{◌≡◌, refl, ℕ, suc, true, false, List, [], ◌∷◌, ◌++◌}
use Rattle.std.proofs.Common.{sym, ◌∙◌, ⊎_elim, true≢false}
use Rattle.foundation.specs.Tests.{cases}
use Rattle.foundation.specs.Lists.{keep_if, Mem, kept}
use Rattle.foundation.specs.Intervals.{in_interval, in_interval-true}
use Rattle.model.specs.declared.Head.{Head}
use Rattle.model.specs.declared.Request.{Request}
use Rattle.model.specs.Base.{Base, controls}
use Rattle.model.specs.Support.{supported, first, then, live, root, supported_at}
use Rattle.model.proofs.SupportChains.{supported-chain}
use Rattle.model.proofs.SupportFacts.{live-last, live-old, supported_more, still, live_everywhere}
use Rattle.model.proofs.SupportFacts.{covered_together}
use Rattle.model.specs.Withdrawal.{restrict}
use Rattle.model.specs.Requests.{REVOKEADM, is, grants, withdraws, root_after, new_head, leave}
use Rattle.model.specs.Means.{plainly}
use Rattle.model.specs.Step.{effect}
use Rattle.model.specs.Step.{Accepted}
use Rattle.model.specs.Soundness.{all_supported}
use Rattle.model.specs.SoundnessFacts.{Sound}
use Rattle.model.specs.Kinds.{grant_kinds, withdrawal_kinds, is_apart, not_kind}
use Rattle.laws.specs.KeepFacts.{live-keep}
use Rattle.laws.specs.SoundFacts.{all_supported_lem}
use Rattle.laws.specs.Rows.{all_covered}
use Rattle.laws.specs.AuthorizationsAfter.{new_authorization, granted_authorizations}
use Rattle.laws.specs.AuthorizationsAfter.{same_authorizations}
use Rattle.laws.specs.Restriction.{roots_stay, withdrawn_all}

module _ (b : Base) (q : Request) (s : Sound b) (g : Accepted b q) where
  -- each instant of a grant or denial is supported
  new-supported : grants q ≡ true → (t : ℕ) → in_interval q.interval t ≡ true →
      supported_at b t (new_head (suc b.last) q) ≡ true
  new-supported e t i =
      let xs = b.authorizations in
      let h = new_head (suc b.last) q in
      (supported-chain (root b) (live t xs) h).1 (cases (controls b q.object q.requester)
      (λ c. first c)
      (λ c. let w = in_interval-true q.interval t i in
      let k = (covered_together xs h q.interval).0 (all_covered b q g e c) t w.0 w.1 in
      then ((supported-chain (root b) (live t xs) k.0).0 (all_supported_lem b s t k.0 k.1)) k.1
      k.2))

  -- those that were there stay supported, by no fewer heads
  stay-supported : is q (REVOKEADM ∷ []) ≡ false → (t : ℕ) (heads : List Head) →
      ((k : Head) → Mem k (live t b.authorizations) → Mem k heads) →
      (h : Head) → supported_at b t h ≡ true → supported (root_after b q) heads h ≡ true
  stay-supported d t heads more = supported_more (root b) (root_after b q) (live t b.authorizations) heads
      (λ k. roots_stay b q k (λ z. absurd (true≢false (sym z ∙ d)))) more

  granted_supported : grants q ≡ true → (t : ℕ) (h : Head) →
      Mem h (live t (b.authorizations ++ (new_authorization b q ∷ []))) →
      supported (root_after b q) (live t (b.authorizations ++ (new_authorization b q ∷ []))) h ≡ true
  granted_supported e t h m =
      stay-supported (is_apart q grant_kinds (REVOKEADM ∷ []) refl e) t
      (live t (b.authorizations ++ (new_authorization b q ∷ [])))
      (live-old t b.authorizations (new_authorization b q)) h
      (⊎_elim (λ n. all_supported_lem b s t h n) (λ w. rw w.0 (new-supported e t w.1))
      (live-last t b.authorizations (new_authorization b q) h m))

  -- what restriction leaves is supported by what it leaves
  withdrawn_supported : (t : ℕ) (h : Head) →
      Mem h (live t (restrict (root_after b q) (λ h. true) (leave q b.authorizations))) →
      supported (root_after b q) (live t (restrict (root_after b q) (λ h. true) (leave q b.authorizations)))
      h ≡ true
  unfolding restrict
  withdrawn_supported t h m =
      let r = root_after b q in
      let ys = leave q b.authorizations in
      let l = live-keep (λ h t. supported r (live t ys) h) ys t in
      let n : Mem h (keep_if (λ k. supported r (live t ys) k) (live t ys)) = rw l at m in
      rw l ((supported-chain r (keep_if (λ k. supported r (live t ys) k) (live t ys)) h).1
      (still r (live t ys)
      ((supported-chain r (live t ys) h).0 (kept (λ k. supported r (live t ys) k) (live t ys) h n).1)))

  pub support_after : all_supported (effect plainly b q) ≡ true
  support_after = live_everywhere (effect plainly b q).authorizations
      (λ h t. supported_at (effect plainly b q) t h) (λ t h m. cases (grants q)
      (λ e. rw (granted_authorizations b q e) (granted_supported e t h
      (rw (granted_authorizations b q e) at m)))
      (λ e. cases (withdraws q)
      (λ w. rw (withdrawn_all b q s w) (withdrawn_supported t h (rw (withdrawn_all b q s w) at m)))
      (λ w. rw (same_authorizations b q e w)
      (stay-supported (not_kind q (REVOKEADM ∷ []) withdrawal_kinds refl w) t (live t b.authorizations)
      (λ k n. n) h
      (all_supported_lem b s t h (rw (same_authorizations b q e w) at m))))))
