-- The cut that a request words takes what the request takes (`by-label`, `by_name`, `by-grantor`), and so
-- what is
-- built of a sound base is what 01's withdrawal leaves of it (`withdrawn-is`).
use mathlib.Core.Path.{◌≡◌, refl, sym, ap, ◌∙◌, fun_ext}
use Prim.Native.Nat.{ℕ}
use mathlib.Core.Bool.{Bool, true, not}
use mathlib.Core.List.{[], ◌∷◌}
use Rattle.model.specs.declared.Head.{Head}
use Rattle.model.specs.declared.Request.{Request}
use Rattle.model.specs.Base.{Base}
use Rattle.model.specs.Withdrawal.{keep, restrict}
use Rattle.model.specs.Requests.{REVOKE, REVOKEP, REVOKEN, REVOKEADM, is, withdraws, root_after, leave}
use Rattle.model.specs.Means.{plainly}
use Rattle.model.specs.Step.{effect}
use Rattle.model.specs.SoundnessFacts.{Sound}
use Rattle.model.proofs.SurvivalFacts.{takes_eq}
use Rattle.model.specs.Kinds.{is_apart}
use Rattle.laws.specs.Restriction.{withdrawn_all}
use Rattle.pieces.specs.declared.cut.Cut.{Cut}
use Rattle.pieces.specs.declared.cut.Cut.TheVariants.{Label, Grantor, Name}
use Rattle.pieces.specs.declared.cut.Named.{Named}
use Rattle.pieces.specs.Cuts.{spared, CutOf}

module _ (q : Request) where
  -- REVOKE
  pub by_label_lem : is q (REVOKE ∷ []) ≡ true → CutOf q (Label q.label)
  by_label_lem e h t = rw (takes_eq q h t, e)

  -- REVOKEADM
  pub by_grantor : is q (REVOKEADM ∷ []) ≡ true → CutOf q (Grantor q.object q.subject)
  by_grantor e h t = rw (
    takes_eq q h t,
    is_apart q (REVOKEADM ∷ []) (REVOKE ∷ []) refl e,
    is_apart q (REVOKEADM ∷ []) (REVOKEP ∷ REVOKEN ∷ []) refl e,
    e,
  )

  -- REVOKEP and REVOKEN
  pub by_name : (n : Named) → is q (REVOKEP ∷ REVOKEN ∷ []) ≡ true → n.grantor ≡ q.requester →
      n.subject ≡ q.subject → n.object ≡ q.object → n.mode ≡ q.mode →
      n.negative ≡ is q (REVOKEN ∷ []) →
      n.interval ≡ q.interval → CutOf q (Name n)
  by_name n e g s o m v i h t =
      rw (takes_eq q h t, is_apart q (REVOKEP ∷ REVOKEN ∷ []) (REVOKE ∷ []) refl e, e, g, s, o, m, v, i)

-- the authorizations after a withdrawal, as the code builds them
pub withdrawn_is : (b : Base) (q : Request) (c : Cut) → Sound b → withdraws q ≡ true → CutOf q c →
    (effect plainly b q).authorizations ≡ restrict (root_after b q) (λ h. true)
    (keep (spared c) b.authorizations)
unfolding leave
withdrawn_is b q c s w e =
    withdrawn_all b q s w
    ∙ ap (λ (p : Head → ℕ → Bool). restrict (root_after b q) (λ h. true) (keep p b.authorizations))
    (fun_ext (λ h. fun_ext (λ t. ap not (sym (e h t)))))
