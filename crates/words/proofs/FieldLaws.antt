-- Fields of one table do not meet: what is joined to one leaves the others as they are (`join-law`).
use mathlib.Core.Path.{◌≡◌, refl, sym, ap, ◌∙◌}
use mathlib.Core.Logic.{◌⊎◌, ⊎_elim, inl, inr}
use mathlib.Core.Bool.{true}
use mathlib.Core.List.{List}
use Prim.Native.Nat.{ℕ, zero, suc, ◌+◌, ◌*◌, ◌-◌, ◌/◌, ◌%◌, ◌^◌, ◌≤◌, ◌<◌}
use native.Mathlib.Nat.{mod-eq_of_lt, div-eq_of_lt, lt_of_lt_of_le, mul-mod_left, mul_assoc, one-mul}
use native.Mathlib.Nat.{mul-le-mul}
use native.Mathlib.Nat.{mul-le-mul_right, div-mul-le_self, div-one}
use native.Mathlib.Omega.{arith}
use lib.Pow.{pow_pos, pow-lt, shr-shr, pow_mono, pow-add, shl_lt, shl_exact, shl-shr, ones_split, ones_lt}
use lib.Pow.{high}
use lib.Bits.{bit_or, or_shr, or_mod, or_zero_r}
use lib.Count.{count_trailing_zeros, under}
use lib.Dec.{eqb}
use lib.ListN.{length, get_or, set}
use lib.Seq.{get_or-set_same, get_or-set_other}
use Rattle.foundation.specs.Tests.{cases, true_eq, false_eq, eq_true}
use Rattle.foundation.specs.BitMasks.{bit}
use Rattle.foundation.specs.BitLaws.{bit-half}
use Rattle.words.specs.Fields.{starts, field_of, joined}

-- the lowest w bits of a word of ones
pub ones_top : (w : ℕ) → w ≤ 64 → 18446744073709551615 / 2 ^ (64 - w) ≡ 2 ^ w - 1
ones_top w h =
    let e : w + (64 - w) ≡ 64 = omega arith in
    let s : 18446744073709551615 ≡ (2 ^ w - 1) * 2 ^ (64 - w) + (2 ^ (64 - w) - 1) =
    ap (λ (n : ℕ). 2 ^ n - 1) (sym e) ∙ ones_split w (64 - w) in
    ap (λ (n : ℕ). n / 2 ^ (64 - w)) s ∙ high (2 ^ w - 1) (64 - w) (ones_lt (64 - w))

-- a field ends within its word
pub field-inside : (k i : ℕ) → k ≤ 6 → starts k i % 64 + 2 ^ k ≤ 64
field-inside zero i h = omega arith
field-inside (suc zero) i h = omega arith
field-inside (suc (suc zero)) i h = omega arith
field-inside (suc (suc (suc zero))) i h = omega arith
field-inside (suc (suc (suc (suc zero)))) i h = omega arith
field-inside (suc (suc (suc (suc (suc zero))))) i h = omega arith
field-inside (suc (suc (suc (suc (suc (suc zero)))))) i h = omega arith
field-inside (suc (suc (suc (suc (suc (suc (suc k))))))) i h = absurd (omega arith)

-- and before the next
pub gap : (k i j : ℕ) → k ≤ 6 → i < j → starts k i + 2 ^ k ≤ starts k j
gap zero i j h l = omega arith
gap (suc zero) i j h l = omega arith
gap (suc (suc zero)) i j h l = omega arith
gap (suc (suc (suc zero))) i j h l = omega arith
gap (suc (suc (suc (suc zero)))) i j h l = omega arith
gap (suc (suc (suc (suc (suc zero))))) i j h l = omega arith
gap (suc (suc (suc (suc (suc (suc zero)))))) i j h l = omega arith
gap (suc (suc (suc (suc (suc (suc (suc k))))))) i j h l = absurd (omega arith)

-- what is shifted to another field shows nothing here
aside : (v w s m : ℕ) → v < 2 ^ w → (s + w ≤ m) ⊎ (m + w ≤ s) → v * 2 ^ s / 2 ^ m % 2 ^ w ≡ 0
aside v w s m h (inl l) =
    let u : v * 2 ^ s < 2 ^ m = lt_of_lt_of_le (shl_lt w s h) (pow_mono (omega arith)) in
    ap (λ (n : ℕ). n % 2 ^ w) (div-eq_of_lt u) ∙ mod-eq_of_lt (pow_pos w)
aside v w s m h (inr l) =
    let d : ℕ = s - m - w in
    let e : (d + w) + m ≡ s = omega arith in
    let f : v * 2 ^ s ≡ v * 2 ^ d * 2 ^ w * 2 ^ m =
    ap (λ (n : ℕ). v * 2 ^ n) (sym e) ∙ ap (λ (n : ℕ). v * n) (pow-add 2 (d + w) m)
    ∙ sym (mul_assoc v (2 ^ (d + w)) (2 ^ m))
    ∙ ap (λ (n : ℕ). v * n * 2 ^ m) (pow-add 2 d w)
    ∙ ap (λ (n : ℕ). n * 2 ^ m) (sym (mul_assoc v (2 ^ d) (2 ^ w))) in
    ap (λ (n : ℕ). n / 2 ^ m % 2 ^ w) f
    ∙ ap (λ (n : ℕ). n % 2 ^ w) (shl-shr (v * 2 ^ d * 2 ^ w) m)
    ∙ mul-mod_left (v * 2 ^ d) (2 ^ w)

module _ (k i v : ℕ) (ws : List ℕ) (few : k ≤ 6) (within : starts k i < 64 * length ws) (small : v < 2 ^ (2
    ^ k)) where
  -- the word that has field i, and where the field starts in it
  abbrev at : ℕ
  at = starts k i / 64

  abbrev place : ℕ
  place = starts k i % 64

  abbrev pub words_after : List ℕ
  words_after = set ws at (bit_or (get_or ws at 0) (v * 2 ^ place % 18446744073709551616))

  shift : v * 2 ^ place % 18446744073709551616 ≡ v * 2 ^ place
  shift = shl_exact (2 ^ k) place 64 small (omega (arith, field-inside k i few))

  -- field j of the word after
  read : (m : ℕ) → get_or words_after at 0 / 2 ^ m % 2 ^ (2 ^ k)
      ≡ bit_or (get_or ws at 0 / 2 ^ m % 2 ^ (2 ^ k)) (v * 2 ^ place / 2 ^ m % 2 ^ (2 ^ k))
  read m =
      let w : ℕ = get_or ws at 0 in
      ap (λ (n : ℕ). n / 2 ^ m % 2 ^ (2 ^ k)) (get_or-set_same ws at (bit_or w (v * 2 ^ place %
      18446744073709551616)) 0 (omega arith)
      ∙ ap (bit_or w) shift)
      ∙ ap (λ (n : ℕ). n % 2 ^ (2 ^ k)) (or_shr w (v * 2 ^ place) m)
      ∙ or_mod (w / 2 ^ m) (v * 2 ^ place / 2 ^ m) (2 ^ k)

  same : field_of k words_after i ≡ bit_or (field_of k ws i) v
  unfolding field_of
  same = read place ∙ ap (bit_or (get_or ws at 0 / 2 ^ place % 2 ^ (2 ^ k)))
      (ap (λ (n : ℕ). n % 2 ^ (2 ^ k)) (shl-shr v place) ∙ mod-eq_of_lt small)

  near : (j : ℕ) → starts k j / 64 ≡ at → (i < j) ⊎ (j < i) → field_of k words_after j ≡ field_of k ws j
  unfolding field_of
  near j e d =
      let m : ℕ = starts k j % 64 in
      let l : (place + 2 ^ k ≤ m) ⊎ (m + 2 ^ k ≤ place) = ⊎_elim
      (λ o. inl (omega (arith, gap k i j few o))) (λ o. inr (omega (arith, gap k j i few o))) d in
      ap (λ (n : ℕ). get_or words_after n 0 / 2 ^ m % 2 ^ (2 ^ k)) e ∙ read m
      ∙ ap (bit_or (get_or ws at 0 / 2 ^ m % 2 ^ (2 ^ k))) (aside v (2 ^ k) place m small l)
      ∙ or_zero_r (get_or ws at 0 / 2 ^ m % 2 ^ (2 ^ k))
      ∙ ap (λ (n : ℕ). get_or ws n 0 / 2 ^ m % 2 ^ (2 ^ k)) (sym e)

  far : (j : ℕ) → (starts k j / 64 ≡ at → ⊥) → field_of k words_after j ≡ field_of k ws j
  unfolding field_of
  far j n = ap (λ (w : ℕ). w / 2 ^ (starts k j % 64) % 2 ^ (2 ^ k))
      (get_or-set_other ws at (starts k j / 64) (bit_or (get_or ws at 0) (v * 2 ^ place % 18446744073709551616))
      0 n)

  other : (j : ℕ) → (i < j) ⊎ (j < i) → field_of k words_after j ≡ field_of k ws j
  other j d = cases (eqb (starts k j / 64) at)
      (λ e. near j (true_eq (starts k j / 64) at e) d)
      (λ e. far j (false_eq (starts k j / 64) at e))

  pub join-law : (j : ℕ) → field_of k words_after j ≡ joined k ws i v j
  join-law j = cases (eqb j i)
      (λ e. rw e (ap (field_of k words_after) (true_eq j i e) ∙ same))
      (λ e. rw e (other j (apart (false_eq j i e))))
    where
      apart : (j ≡ i → ⊥) → (i < j) ⊎ (j < i)
      apart n = cases (eqb (j - i) 0)
          (λ z. let y = true_eq (j - i) 0 z in inr (omega arith))
          (λ z. let y = false_eq (j - i) 0 z in inl (omega arith))

-- ---- shifts by k

pub width : (k : ℕ) → k ≤ 6 → 2 ^ k ≤ 64
width k h = pow_mono h

pub one_shifted : (k : ℕ) → k ≤ 6 → 1 * 2 ^ k % 4294967296 ≡ 2 ^ k
one_shifted k h = rw (one-mul (2 ^ k)) (mod-eq_of_lt (omega (arith, width k h)))

pub starts_small : (k i : ℕ) → k ≤ 6 → i < 4294967296 → i * 2 ^ k % 18446744073709551616 ≡ starts k i
starts_small k i h l =
    let g : i ≤ 4294967295 = omega arith in
    let m : i * 2 ^ k ≤ 4294967295 * 64 = mul-le-mul g (width k h) in
    mod-eq_of_lt (omega arith)

pub bit_shifted : (k : ℕ) → k < 64 → 1 * 2 ^ k % 18446744073709551616 ≡ 2 ^ k
bit_shifted k h = rw (one-mul (2 ^ k)) (mod-eq_of_lt (pow-lt h))

-- what is left of a word that was shifted down fits where it was
pub back_up : (x y a : ℕ) → x < 18446744073709551616 → y ≤ x / 2 ^ a →
    y * 2 ^ a % 18446744073709551616 ≡ y * 2 ^ a
back_up x y a h l =
    let m : y * 2 ^ a ≤ x / 2 ^ a * 2 ^ a = mul-le-mul_right (2 ^ a) l in
    mod-eq_of_lt (omega (arith, div-mul-le_self x (2 ^ a)))

-- ---- the lowest bit

-- the bit behind the zeros at the low end is set
pub lowest_set : (k x : ℕ) → count_trailing_zeros k x < k → bit (count_trailing_zeros k x) x ≡ true
unfolding count_trailing_zeros
lowest_set zero x h = absurd (omega arith)
lowest_set (suc k) x h = split (λ l. lowest_set k (x / 2) l) (x % 2) refl h
  where
    split : (count_trailing_zeros k (x / 2) < k → bit (count_trailing_zeros k (x / 2)) (x / 2) ≡ true) →
        (d : ℕ) → x % 2 ≡ d → under (x % 2) (count_trailing_zeros k (x / 2)) < suc k →
        bit (under (x % 2) (count_trailing_zeros k (x / 2))) x ≡ true
    split f zero e l =
        let t : ℕ = count_trailing_zeros k (x / 2) in
        let g : suc t < suc k = rw e at l in
        rw e (bit-half t x ∙ f (omega arith))
    split f (suc d) e l =
        let o : x % 2 ≡ 1 = omega arith in
        let u : under (x % 2) (count_trailing_zeros k (x / 2)) ≡ 0 = rw o in
        rw u (rw (div-one x) (eq_true (x % 2) 1 o))

pub next_set : (m r : ℕ) → count_trailing_zeros 64 (m / 2 ^ r) < 64 → bit (r + count_trailing_zeros 64 (m / 2 ^ r)) m ≡ true
next_set m r h =
    let t : ℕ = count_trailing_zeros 64 (m / 2 ^ r) in
    ap (λ (n : ℕ). eqb (n % 2) 1) (sym (shr-shr m r t)) ∙ lowest_set 64 (m / 2 ^ r) h
