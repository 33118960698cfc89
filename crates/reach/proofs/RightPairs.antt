-- Where rules lead, from a pair of the net to one, and words of 16 bits.
use mathlib.Core.Path.{◌≡◌, sym, ◌∙◌}
use mathlib.Core.Bool.{true, not, true≢false}
use mathlib.Core.List.{List}
use Prim.Native.Nat.{ℕ, suc, ◌+◌, ◌*◌, ◌/◌, ◌%◌, ◌^◌, ◌≤◌, ◌<◌}
use native.Mathlib.Nat.{mod-lt, mod-eq_of_lt, div-lt_iff_lt-mul, mul-le-mul_right, one-mul}
use native.Mathlib.Omega.{arith}
use lib.Pow.{pow-lt}
use lib.Dec.{eqb}
use lib.ListN.{get_or}
use Rattle.foundation.specs.Tests.{cases, and-true, and_intro}
use Rattle.foundation.specs.BitMasks.{bit}
use Rattle.foundation.specs.BitLaws.{power_only}
use Rattle.words.specs.Bits.{less}
use Rattle.words.proofs.CutBit.{bit-less}
use Rattle.reach.specs.Net.{turned, right_pair, Formed, Led}

-- a code that is no star is below the count, and so is where it leads
turned-below : (code own n : ℕ) → ((eqb code 255 ≡ true → ⊥) → code < n) → own < n → turned code own < n
turned-below code own n h l = cases (eqb code 255)
    (λ e. rw e l)
    (λ e. rw e (h (λ f. true≢false (sym f ∙ e))))

module _ (right : List ℕ) (subjects size p : ℕ) (f : Formed right subjects size) (h : p < size) where
  pub object-below : p / subjects < f.objects
  object-below = (div-lt_iff_lt-mul f.some).1 (omega (arith, f.rows))

  pub subject-below : p % subjects < subjects
  subject-below = mod-lt p f.some

  pub led : (m r : ℕ) → m < 8 → r < 64 → Led right subjects size (p / subjects) (p % subjects) m r
  unfolding right_pair
  led m r g l =
      let c = f.codes r l in
      let a : ℕ = turned (get_or right (4 * r) 0) (p / subjects) in
      let b : ℕ = turned (get_or right (4 * r + 1) 0) (p % subjects) in
      let o : a < f.objects = turned-below (get_or right (4 * r) 0) (p / subjects) f.objects c.object
      object-below in
      let s : b < subjects = turned-below (get_or right (4 * r + 1) 0) (p % subjects) subjects c.subject
      subject-below in
      let q : suc a * subjects ≤ f.objects * subjects = mul-le-mul_right subjects o in
      record {
        pair = omega (arith, f.rows);
        mode = turned-below (get_or right (4 * r + 2) 0) m 8 c.mode g;
        signs = c.signs;
      }

-- ---- words of 16 bits

pub shifted : (k : ℕ) → k < 16 → 1 * 2 ^ k % 65536 ≡ 2 ^ k
shifted k h = rw (one-mul (2 ^ k)) (mod-eq_of_lt (pow-lt h))

module _ (x k : ℕ) where
  pub cut_in : (i : ℕ) → bit i (less x (2 ^ k)) ≡ true → bit i x ≡ true
  cut_in i e = (and-true (bit i x) (not (bit i (2 ^ k))) (sym (bit-less i x (2 ^ k)) ∙ e)).0

  pub cut_other : (i : ℕ) → bit i x ≡ true → (i ≡ k → ⊥) → bit i (less x (2 ^ k)) ≡ true
  cut_other i e n = bit-less i x (2 ^ k)
      ∙ and_intro (bit i x) (not (bit i (2 ^ k))) e (cases (bit i (2 ^ k))
      (λ f. absurd (n (power_only k i f))) (λ f. rw f))
