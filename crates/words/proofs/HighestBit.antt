-- A word's highest bit, and the word without it.
use Rattle.std.specs.Prelude.{◌≡◌, true, false, ◌&&◌, ℕ, suc, ◌+◌, ◌*◌, ◌-◌, ◌/◌, ◌%◌, ◌^◌, ◌≤◌, ◌<◌, eqb, ltb}
use Rattle.std.proofs.Common.{sym, ap, ◌∙◌, arith}
use Rattle.std.proofs.Math.Nat.{pow-succ'}
use Rattle.std.proofs.Math.Pow.{high, low}
use Rattle.std.specs.Int.Count.{count_leading_zeros}
use Rattle.std.proofs.lemmas.Nat.{leading_top}
use Rattle.foundation.specs.Tests.{cases, true-le, false-le}
use Rattle.foundation.specs.BitMasks.{bit, bit-inside}
use Rattle.foundation.specs.BitLaws.{bit_rest}

-- where it is
pub record Highest (m k : ℕ) : Type 0 where
  pub place : k < 64
  pub from : 2 ^ k ≤ m
  pub to : m < 2 ^ suc k

pub highest : (m : ℕ) → 0 < m → m < 18446744073709551616 → Highest m (63 - count_leading_zeros 64 m)
highest m h l =
    let t = leading_top 64 m h l in
    let e : 63 - count_leading_zeros 64 m ≡ t.0 = omega (arith, t.1) in
    rw e (record { place = omega (arith, t.1); from = t.2; to = t.3 })

module _ (m k : ℕ) (h : Highest m k) where
  apart : 1 * 2 ^ k + (m - 2 ^ k) ≡ m
  apart = omega (arith, h.from)

  rest : m - 2 ^ k < 2 ^ k
  rest = let u : m < 2 * 2 ^ k = rw (pow-succ' 2 k) at h.to in omega arith

  pub top_set : bit k m ≡ true
  top_set =
      let r = rest in
      let e : m / 2 ^ k ≡ 1 = ap (λ (n : ℕ). n / 2 ^ k) (sym apart) ∙ high 1 k r in
      ap (λ (n : ℕ). eqb (n % 2) 1) e

  pub none_above : (i : ℕ) → k < i → bit i m ≡ false
  none_above i l = cases (bit i m)
      (λ e. let b = bit-inside (suc k) m i h.to e in absurd (omega arith))
      (λ e. e)

  pub without_top : (i : ℕ) → bit i (m - 2 ^ k) ≡ ltb i k && bit i m
  without_top i =
      let r = rest in
      let e : m % 2 ^ k ≡ m - 2 ^ k = ap (λ (n : ℕ). n % 2 ^ k) (sym apart) ∙ low 1 k r in
      cases (ltb i k)
      (λ y. rw (y) (ap (bit i) (sym e) ∙ bit_rest m i k (true-le (suc i) k y)))
      (λ y. rw (y) (cases (bit i (m - 2 ^ k))
      (λ b. let g = bit-inside k (m - 2 ^ k) i r b in absurd (omega (arith, false-le (suc i) k y)))
      (λ b. b)))
