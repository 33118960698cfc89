-- The numbers of a region's places: they lie below its size (`index_below`), and different places have
-- different ones (`index-apart`), since different modes have (`modesBelow-same`).
use mathlib.Core.Path.{◌≡◌, sym, ap, ◌∙◌}
use mathlib.Core.Bool.{true}
use Prim.Native.Nat.{ℕ, suc, ◌+◌, ◌*◌, ◌-◌, ◌/◌, ◌%◌, ◌^◌, ◌≤◌, ◌<◌}
use native.Mathlib.Nat.{mod-lt, mul-le-mul_right}
use native.Mathlib.Omega.{arith}
use lib.Count.{ones, ones_step, ones_cat}
use lib.Dec.{ltb}
use lib.Pow.{pow_pos, split, mod-mod-pow}
use Rattle.foundation.specs.Tests.{cases, true_eq, true-le, false-le}
use Rattle.foundation.specs.BitMasks.{bit}
use Rattle.foundation.specs.BitLaws.{bit_rest}
use Rattle.foundation.specs.Quotients.{parted}
use Rattle.places.specs.declared.Grid.{Grid}
use Rattle.places.specs.declared.Region.{Region}
use Rattle.places.specs.declared.Point.{Point}
use Rattle.places.specs.ReachedNumbers.{modes_below}
use Rattle.places.specs.Regions.{free, outer_size, mode_size, outer_index, mode_index, size_of, index_in}
use Rattle.places.specs.Regions.{Within, In}

-- ---- modes

pub modes_below_fewer : (modes m : ℕ) → bit m modes ≡ true → modes_below modes m < ones modes
modes_below_fewer modes m e =
    let r : ℕ = modes % 2 ^ m in
    let q : ℕ = modes / 2 ^ m in
    let c : ones (q * 2 ^ m + r) ≡ ones q + ones r = ones_cat m q r (mod-lt modes (pow_pos m)) in
    let w : ones (q * 2 ^ m + r) ≡ ones modes = ap ones (split modes m) in
    let o : q % 2 ≡ 1 = true_eq (q % 2) 1 e in
    omega (arith, ones_step q)

pub modes_below-apart : (modes m n : ℕ) → m < n → bit m modes ≡ true → modes_below modes m < modes_below modes n
modes_below-apart modes m n h e =
    let x : ℕ = modes % 2 ^ n in
    let s : (n - m) + m ≡ n = omega arith in
    let low : x % 2 ^ m ≡ modes % 2 ^ m =
    ap (λ (k : ℕ). modes % 2 ^ k % 2 ^ m) (sym s) ∙ mod-mod-pow modes (n - m) m in
    let f : ones (x % 2 ^ m) ≡ ones (modes % 2 ^ m) = ap ones low in
    omega (arith, modes_below_fewer x m (bit_rest modes m n h ∙ e))

-- modes of one rank are one mode
pub modes_below_same : (modes m n : ℕ) → bit m modes ≡ true → bit n modes ≡ true → modes_below modes m
    ≡ modes_below modes n →
    m ≡ n
modes_below_same modes m n e f q = cases (ltb m n)
    (λ y. absurd (omega (arith, modes_below-apart modes m n (true-le (suc m) n y) e)))
    (λ y. cases (ltb n m)
    (λ z. absurd (omega (arith, modes_below-apart modes n m (true-le (suc n) m z) f)))
    (λ z. omega (arith, false-le (suc m) n y, false-le (suc n) m z)))

-- ---- places

module _ (g : Grid) (b : Region) where
  outer_below : (n : ℕ) (x : Point) → Within g n x → outer_index b n x < outer_size g b
  outer_below n x w = cases (free b.subject)
      (λ s. cases (free b.object) (λ o. rw (s, o) w.pair) (λ o. rw (s, o) w.subject))
      (λ s. cases (free b.object) (λ o. rw (s, o) w.object) (λ o. rw (s, o) (omega arith)))

  mode-below : (n : ℕ) (x : Point) → Within g n x → mode_index g b x < mode_size g b
  mode-below n x w = cases (free b.mode)
      (λ m. rw m (modes_below_fewer g.modes x.mode w.mode))
      (λ m. rw m (omega arith))

  pub index_below : (n : ℕ) (x : Point) → Within g n x → index_in g b n x < size_of g b
  unfolding index_in size_of
  index_below n x w =
      let q : suc (outer_index b n x) * mode_size g b ≤ outer_size g b * mode_size g b =
      mul-le-mul_right (mode_size g b) (outer_below n x w) in
      omega (arith, mode-below n x w)

  -- two places of the region with one number are one place, if pairs of one number are one pair
  module _ (n k : ℕ) (x y : Point) (v : Within g n x) (w : Within g k y) (i : In b x) (j : In b y)
      (one : n ≡ k → (x.subject ≡ y.subject) × (x.object ≡ y.object)) where
    outer_apart : outer_index b n x ≡ outer_index b k y → (x.subject ≡ y.subject) × (x.object ≡ y.object)
    outer_apart e = cases (free b.subject)
        (λ s. cases (free b.object)
        (λ o. one (rw (s, o) at e))
        (λ o. (rw (s, o) at e, i.object o ∙ sym (j.object o))))
        (λ s. let q = i.subject s ∙ sym (j.subject s) in cases (free b.object)
        (λ o. (q, rw (s, o) at e))
        (λ o. (q, i.object o ∙ sym (j.object o))))

    mode-apart : mode_index g b x ≡ mode_index g b y → x.mode ≡ y.mode
    mode-apart e = cases (free b.mode)
        (λ m. modes_below_same g.modes x.mode y.mode v.mode w.mode (rw m at e))
        (λ m. i.mode m ∙ sym (j.mode m))

    pub index_apart : index_in g b n x ≡ index_in g b k y →
        (x.subject ≡ y.subject) × (x.object ≡ y.object) × (x.mode ≡ y.mode)
    unfolding index_in
    index_apart e =
        let p = parted (outer_index b n x) (outer_index b k y) (mode_size g b) (mode_index g b x) (mode_index g
        b y)
        (mode-below n x v) (mode-below k y w) e in
        let o = outer_apart p.0 in
        (o.0, o.1, mode-apart p.1)
