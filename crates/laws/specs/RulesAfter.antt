-- The rules that a request leaves: each is an old one that is not dropped, or ADDRULE's (`rule-from`,
-- `rule-origin`); a part of stratified rules is stratified (`stratified-less`).
use Rattle.std.specs.Prelude.{◌≡◌, refl, ◌⊎◌, Bool, true, false, not, List, [], ◌∷◌, ℕ, suc, eqb}
use Rattle.std.proofs.Common.{ap, ◌∙◌, inl, inr, ⊎_elim}
use Rattle.foundation.specs.Tests.{cases, must_fail, not-true}
use Rattle.foundation.specs.Lists.{anyb, allb, Mem, mem_all, kept, last_mem}
use Rattle.foundation.specs.Graph.{Path, direct, onward, strict_edge, heavy, cyclic, cyclic_path}
use Rattle.model.specs.declared.Rule.{Rule}
use Rattle.model.specs.declared.Request.{Request}
use Rattle.model.specs.Base.{Base}
use Rattle.model.specs.Stratification.{precedes, weight, stratified}
use Rattle.model.specs.Requests.{ADDRULE, DROPRULE, REVOKEADM, REVOKEREF, is, new_rule, drops}
use Rattle.model.specs.Means.{plainly}
use Rattle.model.specs.Step.{effect}
use Rattle.model.specs.Kinds.{kind_is, not_kind}

-- a rule after the request: ADDRULE's, or an old one
abbrev pub RuleOrigin : Base → Request → Rule → Type 0
RuleOrigin b q r = ((is q (ADDRULE ∷ []) ≡ true) × (r ≡ new_rule (suc b.last) q)) ⊎ Mem r b.rules

module _ (b : Base) (q : Request) where
  abbrev after : Base
  after = effect plainly b q

  abbrev new : Rule
  new = new_rule (suc b.last) q

  -- where a rule after the request comes from: ADDRULE, or the old rules without those that are dropped
  abbrev From : Rule → Type 0
  From r = ((is q (ADDRULE ∷ []) ≡ true) × (r ≡ new)) ⊎ (Mem r b.rules × (drops b q r ≡ false))

  rule-from : (r : Rule) → Mem r after.rules → From r
  rule-from r m = cases (is q (ADDRULE ∷ []))
      (λ k. ⊎_elim (λ n. inr (n, rw (kind_is q ADDRULE k))) (λ e. inl (k, e))
      (last_mem r b.rules new (rw k at m)))
      (λ k. cases (is q (DROPRULE ∷ REVOKEADM ∷ REVOKEREF ∷ []))
      (λ l. let w = kept (λ r. not (drops b q r)) b.rules r (rw (k, l) at m) in
      inr (w.0, not-true (drops b q r) w.1))
      (λ l. inr ((rw (k, l) at m), rw (none DROPRULE refl l, none REVOKEADM refl l, none REVOKEREF refl l))))
    where
      none : (k : ℕ) → allb (λ k. anyb (eqb k) (DROPRULE ∷ REVOKEADM ∷ REVOKEREF ∷ [])) (k ∷ []) ≡ true →
          is q (DROPRULE ∷ REVOKEADM ∷ REVOKEREF ∷ []) ≡ false → is q (k ∷ []) ≡ false
      none k = not_kind q (k ∷ []) (DROPRULE ∷ REVOKEADM ∷ REVOKEREF ∷ [])

  -- what holds of every rule that is not dropped and of ADDRULE's holds of all
  pub kept_all : (p : Rule → Bool) → ((r : Rule) → Mem r b.rules → drops b q r ≡ false → p r ≡ true) →
      (is q (ADDRULE ∷ []) ≡ true → p (new_rule (suc b.last) q) ≡ true) →
      allb p (effect plainly b q).rules ≡ true
  kept_all p old fresh = mem_all p after.rules
      (λ r m. ⊎_elim (λ w. ap p w.1 ∙ fresh w.0) (λ w. old r w.0 w.1) (rule-from r m))

  pub rule_origin : (r : Rule) → Mem r (effect plainly b q).rules → RuleOrigin b q r
  rule_origin r m = ⊎_elim (λ w. inl w) (λ w. inr w.0) (rule-from r m)

  -- what holds of every old rule and of ADDRULE's holds of all
  pub rules_all : (p : Rule → Bool) → ((r : Rule) → Mem r b.rules → p r ≡ true) →
      (is q (ADDRULE ∷ []) ≡ true → p (new_rule (suc b.last) q) ≡ true) →
      allb p (effect plainly b q).rules ≡ true
  rules_all p old fresh = kept_all p (λ r m d. old r m) fresh

-- ---- fewer rules

-- a path among some of the nodes is one among all
path_more : {K : Type 0} (first edge : K → K → Bool) (xs ys : List K) → ((x : K) → Mem x xs → Mem x ys) →
    {q r : K} →
    Path first edge xs q r → Path first edge ys q r
path_more first edge xs ys h (direct e) = direct e
path_more first edge xs ys h (onward {p} c m e) = onward (path_more first edge xs ys h c) (h p m) e

-- so a circle among some of the rules is one among all
pub stratified-less : (rs us : List Rule) → ((r : Rule) → Mem r rs → Mem r us) → stratified us ≡ true →
    stratified rs ≡ true
unfolding stratified
stratified-less rs us h e = ap not (must_fail (cyclic precedes (heavy weight) us)
    (cyclic precedes (heavy weight) rs)
    (not-true (cyclic precedes (heavy weight) us) e)
    (λ c. let w = (cyclic_path precedes (heavy weight) rs).0 c in (cyclic_path precedes (heavy weight) us).1
    (w.0, h w.0 w.1, path_more (strict_edge precedes (heavy weight)) precedes rs us h w.2)))
