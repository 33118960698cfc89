-- Kinds by their numbers. A request that the table lets pass is of one of twelve, and one that withdraws no
-- instants of one of eight.
use mathlib.Core.Path.{◌≡◌, refl}
use mathlib.Core.Logic.{◌⊎◌, inl, ⊎_elim}
use Prim.Native.Nat.{ℕ, zero, suc, ◌+◌, ◌≤◌, ◌<◌}
use native.Mathlib.Omega.{arith}
use mathlib.Core.Bool.{true, false}
use mathlib.Core.List.{List, [], ◌∷◌}
use lib.Dec.{leb, eqb}
use Rattle.foundation.specs.Tests.{cases, eq_true, true_eq, ne_false, false_eq, true-le, and-true, not-false}
use Rattle.foundation.specs.Tests.{must_fail}
use Rattle.foundation.specs.Lists.{anyb}
use Rattle.model.specs.declared.Request.{Request}
use Rattle.model.specs.Ranges.{between}
use Rattle.model.specs.Requests.{NEW, REVOKE, REVOKEP, REVOKEN, REVOKEADM, REVOKEREF, is, withdraws}
use Rattle.model.specs.Step.{out_of_range}
use Rattle.model.proofs.StepFacts.{in_range}
use Rattle.model.specs.Kinds.{withdrawal_kinds}
use Rattle.requests.specs.KeepingKinds.{keeping_kinds}

-- n numbers, from m on
abbrev pub numbers_from : ℕ → ℕ → List ℕ
numbers_from m zero = []
numbers_from m (suc n) = m ∷ numbers_from (suc m) n

pub kind_among : (k m n : ℕ) → m ≤ k → k < m + n → anyb (λ x. eqb k x) (numbers_from m n) ≡ true
kind_among k m zero l h = absurd (omega arith)
kind_among k m (suc n) l h = cases (eqb k m)
    (λ e. rw e)
    (λ e. let d = false_eq k m e in rw e (kind_among k (suc m) n (omega (arith, d)) (omega arith)))

-- a number outside of a range is none of it
pub kind_apart : (k m n x : ℕ) → (k < m) ⊎ (n ≤ k) → m ≤ x → x < n → eqb k x ≡ false
kind_apart k m n x far l h = ne_false k x (λ e. ⊎_elim (λ w. omega (arith, w, e)) (λ w. omega (arith, w, e))
    far)

module _ (q : Request) where
  pub is_one : (k : ℕ) → q.kind ≡ k → is q (k ∷ []) ≡ true
  is_one k e = rw (eq_true q.kind k e)

  known : out_of_range q ≡ false → is q (numbers_from NEW 12) ≡ true
  known e =
      let w = and-true (leb NEW q.kind) (leb q.kind REVOKEREF)
      (not-false (between NEW REVOKEREF q.kind) (in_range q e _ (inl refl))) in
      kind_among q.kind NEW 12 (true-le NEW q.kind w.0)
      (omega (arith, true-le q.kind REVOKEREF w.1))

  -- one of the eight
  pub keeping : out_of_range q ≡ false → withdraws q ≡ false → is q keeping_kinds ≡ true
  keeping e w =
      let no : (k : ℕ) → anyb (λ x. eqb k x) withdrawal_kinds ≡ true → eqb q.kind k ≡ false =
      λ k h. must_fail (withdraws q) (eqb q.kind k) w (λ i. rw (true_eq q.kind k i) h) in
      rw (no REVOKE refl, no REVOKEP refl, no REVOKEN refl, no REVOKEADM refl) at (known e)
