-- A step on sets of keys that only adds: after as many steps as there are keys nothing is added (`settled`),
-- and what is reached is the smallest closed set above the start (`least`). Also the size of a set.
use Rattle.std.specs.Prelude.{◌≡◌, Bool, true, false, List, length}
use Rattle.std.proofs.Math.Path.{ap}
use Rattle.std.proofs.Common.{⊎_elim, arith}
use Prim.Native.Nat.{ℕ, zero, suc, ◌≤◌, ◌<◌}
use Rattle.foundation.specs.Lists.{Mem}
use Rattle.foundation.specs.Totals.{total, total-le, TotalGap}
use Rattle.foundation.specs.BitMasks.{as_bit, bit_le, bit_mono, bit_same}
use Rattle.foundation.specs.Totals.{total-gap}
use Rattle.foundation.specs.Totals.{still_after}

-- n steps of F from S
unfoldable pub iter : {X : Type 0} → (X → X) → ℕ → X → X
iter F zero S = S
iter F (suc n) S = F (iter F n S)

-- ---- the size of a set: how many of the keys are in it

abbrev pub set_size : {K : Type 0} → (K → Bool) → List K → ℕ
set_size S ks = total (λ k. as_bit (S k)) ks

pub set_size-le : {K : Type 0} (S : K → Bool) (ks : List K) → set_size S ks ≤ length ks
set_size-le S ks = omega (arith, total-le (λ k. as_bit (S k)) 1 ks (λ k m. bit_le (S k)))

-- S is part of Q on the keys: it is no larger, and smaller if some key is in Q only
module _ {K : Type 0} (S Q : K → Bool) (ks : List K) (h : (k : K) → Mem k ks → S k ≡ true → Q k ≡ true) where
  gap : TotalGap (λ k. as_bit (S k)) (λ k. as_bit (Q k)) ks
  gap = total-gap (λ k. as_bit (S k)) (λ k. as_bit (Q k)) ks (λ k m. bit_mono (S k) (Q k) (h k m))

  pub set_size_mono : set_size S ks ≤ set_size Q ks
  set_size_mono = ⊎_elim (λ a. omega (arith, a.1)) (λ l. omega arith) gap

  pub set_size-less : (k : K) → Mem k ks → S k ≡ false → Q k ≡ true → set_size S ks < set_size Q ks
  set_size-less k m p q = ⊎_elim (λ a. absurd (omega (arith, a.0 k m, ap as_bit p, ap as_bit q))) (λ l. l) gap

-- ---- steps

-- `Inv` holds of every set met; the step looks at keys only, and it only adds
module _ {K : Type 0} (keys : List K) (F : (K → Bool) → K → Bool) (Inv : (K → Bool) → Type 0)
    (inv : (S : K → Bool) → Inv S → Inv (F S))
    (local : (S Q : K → Bool) → Inv S → Inv Q → ((k : K) → Mem k keys → S k ≡ Q k) →
    (k : K) → Mem k keys → F S k ≡ F Q k)
    (adds : (S : K → Bool) → Inv S → (k : K) → S k ≡ true → F S k ≡ true) where
  pub iter_inv : (S : K → Bool) → Inv S → (n : ℕ) → Inv (iter F n S)
  unfolding iter
  iter_inv S v zero = v
  iter_inv S v (suc n) = inv (iter F n S) (iter_inv S v n)

  -- after as many steps as keys, or more, one more adds nothing to the keys
  pub settled : (S : K → Bool) → Inv S → (n : ℕ) → length keys ≤ n →
      (k : K) → Mem k keys → iter F n S k ≡ F (iter F n S) k
  unfolding iter
  settled S v n h k m = bit_same (iter F n S k) (F (iter F n S) k)
      (still_after keys (λ i k. as_bit (iter F i S k)) (length keys)
      (λ i k m. bit_mono (iter F i S k) (F (iter F i S) k) (adds (iter F i S) (iter_inv S v i) k))
      (λ i a k m. ap as_bit (local (iter F i S) (F (iter F i S)) (iter_inv S v i) (iter_inv S v (suc i))
      (λ j n. bit_same (iter F i S j) (F (iter F i S) j) (a j n)) k m))
      (λ i. set_size-le (iter F i S) keys) n h k m)

-- a part of every closed set that has the start in it
pub least : {K : Type 0} (F : (K → Bool) → K → Bool) →
    ((S Q : K → Bool) → ((k : K) → S k ≡ true → Q k ≡ true) → (k : K) → F S k ≡ true → F Q k ≡ true) →
    (S Q : K → Bool) → ((k : K) → S k ≡ true → Q k ≡ true) → ((k : K) → F Q k ≡ true → Q k ≡ true) →
    (n : ℕ) (k : K) → iter F n S k ≡ true → Q k ≡ true
unfolding iter
least F mono S Q s c zero k e = s k e
least F mono S Q s c (suc n) k e = c k (mono (iter F n S) Q (least F mono S Q s c n) k e)
