-- Numbers summed over a list of keys. Values that only rise from round to round, and whose total is bounded,
-- stand still after as many rounds as the bound says: `still_after`.
use Rattle.std.specs.Prelude.{◌≡◌, refl, ◌⊎◌, ℕ, zero, suc, ◌+◌, ◌*◌, ◌≤◌, ◌<◌, List, [], ◌∷◌, eqb, length}
use Rattle.std.proofs.Common.{inl, inr, ⊎_elim, arith}
use Rattle.foundation.specs.Tests.{cases, true_eq, false_eq}
use Rattle.foundation.specs.Lists.{Mem}

-- ---- totals

module _ {K : Type 0} where
  abbrev pub total : (K → ℕ) → List K → ℕ
  total f [] = 0
  total f (k ∷ ks) = f k + total f ks

  pub total-le : (f : K → ℕ) (b : ℕ) (ks : List K) → ((k : K) → Mem k ks → f k ≤ b) →
      total f ks ≤ length ks * b
  total-le f b [] h = omega arith
  total-le f b (k ∷ ks) h = omega (arith, h k (inl refl), total-le f b ks (λ j m. h j (inr m)))

  -- the same values and the same total, or a larger total
  abbrev pub TotalGap : (f g : K → ℕ) → List K → Type 0
  TotalGap f g ks = (((k : K) → Mem k ks → f k ≡ g k) × (total f ks ≡ total g ks)) ⊎ (total f ks < total g ks)

  -- where f is at most g
  pub total-gap : (f g : K → ℕ) (ks : List K) → ((k : K) → Mem k ks → f k ≤ g k) → TotalGap f g ks
  total-gap f g [] h = inl ((λ k m. absurd m.lower), refl)
  total-gap f g (j ∷ ks) h = join (total-gap f g ks (λ k m. h k (inr m)))
    where
      both : f j ≡ g j → ((k : K) → Mem k ks → f k ≡ g k) → (k : K) → Mem k (j ∷ ks) → f k ≡ g k
      both e a k (inl p) = rw p e
      both e a k (inr m) = a k m

      join : TotalGap f g ks → TotalGap f g (j ∷ ks)
      join (inl a) = cases (eqb (f j) (g j))
          (λ e. let p = true_eq (f j) (g j) e in inl (both p a.0, omega (arith, a.1)))
          (λ e. let n = false_eq (f j) (g j) e in inr (omega (arith, h j (inl refl), a.1)))
      join (inr b) = inr (omega (arith, h j (inl refl)))

-- ---- rounds: `v n` are the values after n of them

module _ {K : Type 0} (keys : List K) (v : ℕ → K → ℕ) where
  -- one more round changes nothing
  abbrev pub Unchanged : ℕ → Type 0
  Unchanged n = (k : K) → Mem k keys → v n k ≡ v (suc n) k

  module _ (bound : ℕ) (rises : (n : ℕ) (k : K) → Mem k keys → v n k ≤ v (suc n) k)
      (lasts : (n : ℕ) → Unchanged n → Unchanged (suc n)) (bounded : (n : ℕ) → total (v n) keys ≤ bound) where
    -- if the total is at least n after n rounds, the next changes nothing, or the total exceeds n then
    moves : (n : ℕ) → n ≤ total (v n) keys → Unchanged n ⊎ (n < total (v (suc n)) keys)
    moves n b = ⊎_elim (λ a. inl a.0) (λ l. inr (omega arith)) (total-gap (v n) (v (suc n)) keys (rises n))

    near : (n : ℕ) → Unchanged n ⊎ (n < total (v (suc n)) keys)
    near zero = moves zero (omega arith)
    near (suc n) = ⊎_elim (λ a. inl (lasts n a)) (λ l. moves (suc n) l) (near n)

    pub still_after : (n : ℕ) → bound ≤ n → Unchanged n
    still_after n h = ⊎_elim (λ a. a) (λ l. absurd (omega (arith, bounded (suc n)))) (near n)
