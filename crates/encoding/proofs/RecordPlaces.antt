-- Where a record lies among those of some bytes, and a turn of a loop that asks them one by one.
use Rattle.std.proofs.Common.{sym, ap, ap₂, ◌∙◌, inl, inr, arith, add-mul, one-mul, length-drop}
use Rattle.std.proofs.Math.Nat.{mul-le-mul_right}
use Rattle.std.specs.Prelude.{◌≡◌, refl, Bool, true, List, [], ◌∷◌, ℕ, zero, suc, ◌+◌, ◌-◌, ◌*◌, ◌≤◌, ◌<◌, length, drop}
use Rattle.foundation.specs.Lists.{Mem}
use Rattle.foundation.specs.ByteRecords.{length-records, record_nth}
use Rattle.foundation.specs.Bytes.{records}
use Rattle.model.specs.Soundness.{chained}

module _ {R : Type 0} (w : ℕ) (f : List ℕ → R) (n : ℕ) (s : List ℕ) (xs : List R) (e : records w f n s ≡ xs) where
  pub counted : n ≡ length xs
  counted = sym (length-records w f n s) ∙ ap length e

  -- the bytes of the i-th are there
  pub within : (i : ℕ) → n * w ≤ length s → i < length xs → i * w + w ≤ length s
  within i h k =
      let q : i + 1 ≤ n = omega (arith, counted) in
      let m : (i + 1) * w ≡ i * w + w = add-mul i 1 w ∙ ap (λ (k : ℕ). i * w + k) (one-mul w) in
      omega (arith, m, mul-le-mul_right w q)

  -- the list from the i-th on, which is r
  pub nth : (i : ℕ) (r : R) → i < length xs → r ≡ f (drop (i * w) s) → drop i xs ≡ r ∷ drop (i + 1) xs
  nth i r h q =
      let k : i < n = omega (arith, counted) in
      let a : i + 1 ≡ suc i = omega arith in
      rw a (ap (drop i) (sym e) ∙ record_nth w f n s i k
      ∙ ap₂ {C = List R} (λ (x : R) (ys : List R). x ∷ ys) (sym q) (ap (drop (suc i)) e))

-- the one that a list has at a place is one of it
pub mem_at : {R : Type 0} (i : ℕ) (xs ys : List R) (r : R) → drop i xs ≡ r ∷ ys → Mem r xs
mem_at {R = R} i [] ys r e =
    let z : length (drop i []) ≡ suc (length ys) = ap length e in
    absurd (omega (arith, z, length-drop {A = R} i []))
mem_at zero (x ∷ xs) ys r e = let p : r ≡ x = cc in inl p
mem_at (suc i) (x ∷ xs) ys r e = inr (mem_at i xs ys r e)

short : {R : Type 0} (p : R → R → Bool) (xs : List R) → length xs ≤ 1 → chained p xs ≡ true
short p [] h = refl
short p (x ∷ []) h = refl
short p (x ∷ y ∷ ys) h = absurd (omega arith)

-- from the last one on there is no next
pub chained_end : {R : Type 0} (p : R → R → Bool) (xs : List R) (i : ℕ) → length xs ≤ i →
    chained p (drop (i - 1) xs) ≡ true
chained_end p xs i h = short p (drop (i - 1) xs) (simp length-drop (omega arith))
