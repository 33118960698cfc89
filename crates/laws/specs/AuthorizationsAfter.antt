-- The authorizations that a request leaves, by its kind: one more (`granted-authorizations`), what a
-- withdrawal leaves (`withdrawn-authorizations`), or the same. So each is the new one, or a piece of one that
-- was there (`origin`).
use Rattle.std.specs.Prelude.{◌≡◌, refl, ◌⊎◌, suc, Bool, true, false, ◌||◌, [], ◌∷◌, ◌++◌}
use Rattle.std.proofs.Common.{ap, ◌∙◌, inl, inr, ⊎_elim, arith}
use Rattle.std.proofs.Math.Bool.{not}
use Rattle.foundation.specs.Tests.{cases}
use Rattle.foundation.specs.Lists.{allb, Mem, mem_all, last_mem}
use Rattle.model.specs.declared.Head.{Head}
use Rattle.model.specs.declared.Authorization.{Authorization}
use Rattle.model.specs.declared.Request.{Request}
use Rattle.model.specs.Base.{Base}
use Rattle.model.specs.Support.{supported, live}
use Rattle.model.specs.Withdrawal.{authorization, restrict}
use Rattle.model.specs.Requests.{grants, withdraws, root_after, new_head, takes, leave, affects}
use Rattle.model.specs.Means.{plainly}
use Rattle.model.specs.Step.{effect}
use Rattle.model.specs.SoundnessFacts.{Sound}
use Rattle.model.specs.Kinds.{grant_kinds, withdrawal_kinds, is_apart}
use Rattle.laws.specs.Chained.{pairwise_last}
use Rattle.laws.specs.KeepFacts.{Piece, piece_piece, pieces_of, Precedes, Sorted, keep_sorted}
use Rattle.laws.specs.SoundFacts.{interval-rises, label-given, sorted}

-- the authorization that a GRANT or DENY adds
abbrev pub new_authorization : Base → Request → Authorization
new_authorization b q = authorization (new_head (suc b.last) q) q.interval

module _ (b : Base) (q : Request) where
  -- ---- by kind

  pub granted_authorizations : grants q ≡ true →
      (effect plainly b q).authorizations ≡ b.authorizations ++ (new_authorization b q ∷ [])
  granted_authorizations e = rw e

  pub withdrawn_authorizations : withdraws q ≡ true →
      (effect plainly b q).authorizations
      ≡ restrict (root_after b q) (affects b.authorizations q) (leave q b.authorizations)
  withdrawn_authorizations e = rw (is_apart q withdrawal_kinds grant_kinds refl e, e)

  pub same_authorizations : grants q ≡ false → withdraws q ≡ false →
      (effect plainly b q).authorizations ≡ b.authorizations
  same_authorizations e f = rw (e, f)

  -- what a withdrawal leaves is pieces
  withdrawn_pieces : (a : Authorization) →
      Mem a (restrict (root_after b q) (affects b.authorizations q) (leave q b.authorizations)) →
      (c : Authorization) × Mem c b.authorizations × Piece a c
  unfolding restrict leave
  withdrawn_pieces a m =
      let ys = leave q b.authorizations in
      let v = pieces_of
      (λ h t. not (affects b.authorizations q h) || supported (root_after b q) (live t ys) h) ys a m in
      let w = pieces_of (λ h t. not (takes q h t)) b.authorizations v.0 v.1 in
      (w.0, w.1, piece_piece a v.0 w.0 v.2 w.2)

  -- and stands in order
  withdrawn_sorted : Sorted b.authorizations →
      Sorted (restrict (root_after b q) (affects b.authorizations q) (leave q b.authorizations))
  unfolding restrict leave
  withdrawn_sorted s =
      let ys = leave q b.authorizations in
      keep_sorted (λ h t. not (affects b.authorizations q h) || supported (root_after b q) (live t ys) h) ys
      (keep_sorted (λ h t. not (takes q h t)) b.authorizations s)

  -- ---- from a sound base

  module _ (s : Sound b) where
    -- each is the new one, or a piece of one that was there
    pub origin : (a : Authorization) → Mem a (effect plainly b q).authorizations →
        ((grants q ≡ true) × (a ≡ new_authorization b q))
        ⊎ ((c : Authorization) × Mem c b.authorizations × Piece a c)
    origin a m = cases (grants q)
        (λ e. ⊎_elim (λ n. inr (itself n)) (λ p. inl (e, p))
        (last_mem a b.authorizations (new_authorization b q) (rw (granted_authorizations e) at m)))
        (λ e. cases (withdraws q)
        (λ w. inr (withdrawn_pieces a (rw (withdrawn_authorizations w) at m)))
        (λ w. inr (itself (rw (same_authorizations e w) at m))))
      where
        itself : Mem a b.authorizations → (c : Authorization) × Mem c b.authorizations × Piece a c
        itself n = (a, n, (refl, interval-rises b s a n, omega arith, omega arith))

    -- a test passes of each if it passes of the new one and of pieces
    pub each_after : (p : Authorization → Bool) → (grants q ≡ true → p (new_authorization b q) ≡ true) →
        ((a c : Authorization) → Mem c b.authorizations → Piece a c → p a ≡ true) →
        allb p (effect plainly b q).authorizations ≡ true
    each_after p n h = mem_all p (effect plainly b q).authorizations
        (λ a m. ⊎_elim (λ w. ap p w.1 ∙ n w.0) (λ w. h a w.0 w.1 w.2) (origin a m))

    -- a test of heads that all passed and the new one passes
    pub heads_after : (p : Head → Bool) → (grants q ≡ true → p (new_head (suc b.last) q) ≡ true) →
        ((c : Authorization) → Mem c b.authorizations → p c.head ≡ true) →
        allb (λ a. p a.head) (effect plainly b q).authorizations ≡ true
    heads_after p n h = each_after (λ a. p a.head) n (λ a c m w. ap p w.0 ∙ h c m)

    pub sorted_after : Sorted (effect plainly b q).authorizations
    sorted_after = cases (grants q)
        (λ e. rw (granted_authorizations e) (pairwise_last Precedes b.authorizations (new_authorization b q)
        (sorted b s) (λ x m. inl (omega (arith, label-given b s x m)))))
        (λ e. cases (withdraws q)
        (λ w. rw (withdrawn_authorizations w) (withdrawn_sorted (sorted b s)))
        (λ w. rw (same_authorizations e w) (sorted b s)))
