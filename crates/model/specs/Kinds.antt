-- Kinds of requests: what one test of the kind says about another.
use Rattle.std.specs.Prelude.{◌≡◌, Bool, true, false, not, List, [], ◌∷◌, ℕ, eqb}
use Rattle.std.proofs.Common.{sym, ap, ◌∙◌}
use Rattle.foundation.specs.Tests.{must_fail, true_eq, not-true, or_false}
use Rattle.foundation.specs.Lists.{anyb, allb, any_mem, all_mem}
use Rattle.model.specs.declared.Request.{Request}
use Rattle.model.specs.Requests.{NEW, GRANT, DENY, REVOKE, REVOKEP, REVOKEN, ADDRULE, GRANTADM}
use Rattle.model.specs.Requests.{REVOKEADM, GRANTREF}
use Rattle.model.specs.Requests.{REVOKEREF, is}

-- ---- the kinds of `grants`, `labels` and `withdraws` in Requests

abbrev pub grant_kinds : List ℕ
grant_kinds = GRANT ∷ DENY ∷ []

abbrev pub label_kinds : List ℕ
label_kinds = GRANT ∷ DENY ∷ ADDRULE ∷ []

abbrev pub withdrawal_kinds : List ℕ
withdrawal_kinds = REVOKE ∷ REVOKEP ∷ REVOKEN ∷ REVOKEADM ∷ []

-- ---- the kinds that name an object, a subject, a mode, an interval, as in Step

abbrev pub object_kinds : List ℕ
object_kinds = NEW ∷ GRANT ∷ DENY ∷ REVOKEP ∷ REVOKEN ∷ GRANTADM ∷ REVOKEADM ∷ GRANTREF ∷ REVOKEREF ∷ []

abbrev pub subject_kinds : List ℕ
subject_kinds = GRANT ∷ DENY ∷ REVOKEP ∷ REVOKEN ∷ GRANTADM ∷ REVOKEADM ∷ GRANTREF ∷ REVOKEREF ∷ []

abbrev pub mode_kinds : List ℕ
mode_kinds = GRANT ∷ DENY ∷ REVOKEP ∷ REVOKEN ∷ []

abbrev pub interval_kinds : List ℕ
interval_kinds = GRANT ∷ DENY ∷ REVOKEP ∷ REVOKEN ∷ ADDRULE ∷ []

module _ (q : Request) where
  -- the kind itself: `rw` by it computes every test of the kind
  pub kind_is : (k : ℕ) → is q (k ∷ []) ≡ true → q.kind ≡ k
  kind_is k e = true_eq q.kind k (sym (or_false (eqb q.kind k)) ∙ e)

  -- what holds of each kind of the list holds of the request's
  kind_all : (p : ℕ → Bool) (ks : List ℕ) → allb p ks ≡ true → is q ks ≡ true → p q.kind ≡ true
  kind_all p ks h e =
      let w = any_mem (λ k. eqb q.kind k) ks e in
      ap p (true_eq q.kind w.0 w.2) ∙ all_mem p ks h w.0 w.1

  -- each of the kinds ks is one of ls; on lists of numerals the test is `refl`
  pub is_kinds : (ks ls : List ℕ) → allb (λ k. anyb (eqb k) ls) ks ≡ true → is q ks ≡ true → is q ls ≡ true
  is_kinds ks ls = kind_all (λ k. anyb (eqb k) ls) ks

  -- none of the kinds ks is one of ls
  pub is_apart : (ks ls : List ℕ) → allb (λ k. not (anyb (eqb k) ls)) ks ≡ true → is q ks ≡ true →
      is q ls ≡ false
  is_apart ks ls h e = not-true (is q ls) (kind_all (λ k. not (anyb (eqb k) ls)) ks h e)

  -- each of the kinds ks is one of ls, and the request's is not
  pub not_kind : (ks ls : List ℕ) → allb (λ k. anyb (eqb k) ls) ks ≡ true → is q ls ≡ false → is q ks ≡ false
  not_kind ks ls h e = must_fail (is q ls) (is q ks) e (is_kinds ks ls h)
