-- Row 13 for a request that withdraws no instants, as code asks it: a body that gets one more is full, or no
-- label is left (`room-is`). Each body gets at most one more, and only by the kinds that add to it.
use mathlib.Core.Path.{◌≡◌, refl, ap, ◌∙◌}
use Prim.Native.Nat.{ℕ, suc, ◌≤◌}
use native.Mathlib.Omega.{arith}
use mathlib.Core.Bool.{Bool, true, false, not, ◌&&◌, ◌||◌}
use mathlib.Core.List.{List, [], ◌∷◌}
use lib.Dec.{leb}
use lib.ListN.{length, length-append}
use Rattle.foundation.specs.Tests.{cases, le-true, le-false, true-le, false-le}
use Rattle.foundation.specs.Lists.{kept_length, length-insert_at}
use Rattle.model.specs.declared.Privilege.{Privilege}
use Rattle.model.specs.declared.Request.{Request}
use Rattle.model.specs.Ranges.{most_objects, most_administrators, most_referrers, most_authorizations, most_rules}
use Rattle.model.specs.Ranges.{last_label}
use Rattle.model.specs.Base.{Base, privilege, is_privilege}
use Rattle.model.specs.FitsFacts.{counts_fit_lem}
use Rattle.model.specs.Requests.{NEW, ADDRULE, DROPRULE, GRANTADM, REVOKEADM, GRANTREF, REVOKEREF, is, grants}
use Rattle.model.specs.Requests.{labels, withdraws, before, new_rule, drops}
use Rattle.model.specs.Means.{plainly}
use Rattle.model.specs.Step.{effect, counts_hold, full}
use Rattle.laws.specs.AuthorizationsAfter.{new_authorization, granted_authorizations, same_authorizations}
use Rattle.laws.specs.Privileges.{changed}
use Rattle.effects.specs.EffectRecords.{first_index}
use Rattle.effects.proofs.PrivilegePlaces.{insert-place}

-- no place is left in the body that the request adds to, or no label
abbrev pub no_room : Base → Request → Bool
no_room b q =
    (is q (NEW ∷ []) && leb most_objects (length b.objects))
    || (is q (GRANTADM ∷ []) && leb most_administrators (length b.administrators))
    || (is q (GRANTREF ∷ []) && leb most_referrers (length b.referrers))
    || (grants q && leb most_authorizations (length b.authorizations))
    || (is q (ADDRULE ∷ []) && leb most_rules (length b.rules))
    || (labels q && leb last_label b.last)

-- ---- one count

-- m elements after n of them: one more, or no more
abbrev Grows : Bool → ℕ → ℕ → Type 0
Grows adds n m = (adds ≡ true → m ≡ suc n) × (adds ≡ false → m ≤ n)

-- then they pass the most only if there is one more and the most were there
passes : (adds : Bool) (n m most : ℕ) → n ≤ most → Grows adds n m → not (leb m most) ≡ adds && leb most n
passes true n m most h g = cases (leb most n)
    (λ e. rw (e, le-false m most (omega (arith, g.0 refl, true-le most n e))))
    (λ e. rw (e, le-true m most (omega (arith, g.0 refl, false-le most n e))))
passes false n m most h g = ap not (le-true m most (omega (arith, g.1 refl)))

-- not all of the tests pass: one fails
not_all : (a b c d e : Bool) → not (a && b && c && d && e) ≡ not a || not b || not c || not d || not e
not_all a b c d e = simp not-and
  where
    not-and : (x y : Bool) → not (x && y) ≡ not x || not y
    not-and true y = refl
    not-and false y = refl

-- ---- each body

changed_grows : (given withdrawn : Bool) (o s : ℕ) (ps : List Privilege) →
    Grows given (length ps) (length (changed given withdrawn o s ps))
changed_grows given withdrawn o s ps = (
  (λ k. let p = privilege o s in
      rw k (ap length (insert-place p ps) ∙ length-insert_at (first_index (before p) ps) p ps)),
  (λ k. cases withdrawn
      (λ l. rw (k, l) (kept_length (λ p. not (is_privilege o s p)) ps))
      (λ l. rw (k, l) (omega arith))),
)

module _ (b : Base) (q : Request) where
  authorizations_grow : withdraws q ≡ false →
      Grows (grants q) (length b.authorizations) (length (effect plainly b q).authorizations)
  authorizations_grow w = (
    (λ k. let e = ap length (granted_authorizations b q k)
        ∙ length-append b.authorizations (new_authorization b q ∷ []) in
        omega (arith, e)),
    (λ k. let e = ap length (same_authorizations b q k w) in omega (arith, e)),
  )

  rules_grow : Grows (is q (ADDRULE ∷ [])) (length b.rules) (length (effect plainly b q).rules)
  rules_grow = (
    (λ k. let e = length-append b.rules (new_rule (suc b.last) q ∷ []) in rw k (omega (arith, e))),
    (λ k. cases (is q (DROPRULE ∷ REVOKEADM ∷ REVOKEREF ∷ []))
        (λ l. rw (k, l) (kept_length (λ r. not (drops b q r)) b.rules))
        (λ l. rw (k, l) (omega arith))),
  )

  -- ---- all of them

  pub room_is : counts_hold b ≡ true → withdraws q ≡ false → full plainly b q ≡ no_room b q
  room_is h w =
      let f = counts_fit_lem b h in
      let a = effect plainly b q in
      ap (λ (x : Bool). x || (labels q && leb last_label b.last))
      (not_all (leb (length a.objects) most_objects) (leb (length a.administrators) most_administrators)
      (leb (length a.referrers) most_referrers) (leb (length a.authorizations) most_authorizations)
      (leb (length a.rules) most_rules))
      ∙ (λ i.
      passes (is q (NEW ∷ [])) (length b.objects) (length a.objects) most_objects f.objects
      (changed_grows (is q (NEW ∷ [])) false q.object q.requester b.objects) i
      || passes (is q (GRANTADM ∷ [])) (length b.administrators)
      (length a.administrators) most_administrators
      f.administrators
      (changed_grows (is q (GRANTADM ∷ [])) (is q (REVOKEADM ∷ [])) q.object q.subject
      b.administrators) i
      || passes (is q (GRANTREF ∷ [])) (length b.referrers) (length a.referrers) most_referrers
      f.referrers
      (changed_grows (is q (GRANTREF ∷ [])) (is q (REVOKEREF ∷ [])) q.object q.subject b.referrers) i
      || passes (grants q) (length b.authorizations) (length a.authorizations) most_authorizations
      f.authorizations (authorizations_grow w) i
      || passes (is q (ADDRULE ∷ [])) (length b.rules) (length a.rules) most_rules
      f.rules rules_grow i
      || (labels q && leb last_label b.last))
