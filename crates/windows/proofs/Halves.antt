-- The search by halves: those in front of `low` are below t, those from `high` on are not.
use mathlib.Core.Path.{◌≡◌, sym, ◌∙◌}
use mathlib.Core.List.{List}
use Prim.Native.Nat.{ℕ, suc, ◌+◌, ◌/◌, ◌≤◌, ◌<◌}
use native.Mathlib.Omega.{arith}
use lib.Dec.{leb, ltb}
use lib.ListN.{get_or}
use Rattle.foundation.specs.Tests.{cases, le-true, le-false, true-le, false-le}
use Rattle.windows.specs.Windows.{Rising}

module _ (n : ℕ) (ms : List ℕ) (t : ℕ) where
  pub record HalvedBetween (low high : ℕ) : Type 0 where
    pub ordered : low ≤ high
    pub within : high ≤ n
    pub below : (j : ℕ) → j < low → get_or ms j 0 < t
    pub above : (j : ℕ) → high ≤ j → j < n → t ≤ get_or ms j 0

  pub cut-start : HalvedBetween 0 n
  cut-start = record {
    ordered = omega arith;
    within = omega arith;
    below = λ j h. absurd (omega arith);
    above = λ j h l. absurd (omega arith);
  }

  module _ (rising : Rising n ms) (low high k : ℕ) (c : HalvedBetween low high) (h : low < high)
      (e : k ≡ (low +
      high) / 2) where
    pub cut_up : get_or ms k 0 < t → HalvedBetween (k + 1) high
    cut_up l = record {
      ordered = omega (arith, c.ordered);
      within = c.within;
      below = λ j g. cases (leb k j)
          (λ y. let q : j ≡ k = omega (arith, true-le k j y) in rw q l)
          (λ y. omega (arith, rising j k (false-le k j y) (omega (arith, c.within))));
      above = c.above;
    }

    pub cut_down : t ≤ get_or ms k 0 → HalvedBetween low k
    cut_down l = record {
      ordered = omega (arith, c.ordered);
      within = omega (arith, c.within);
      below = c.below;
      above = λ j g m. cases (leb j k)
          (λ y. let q : j ≡ k = omega (arith, true-le j k y) in rw q l)
          (λ y. omega (arith, rising k j (false-le j k y) m));
    }

  pub cut-end : (low high : ℕ) → HalvedBetween low high → high ≤ low → (j : ℕ) → j < n → ltb (get_or ms j 0) t
      ≡ ltb j low
  cut-end low high c h j l = cases (ltb j low)
      (λ y. le-true (suc (get_or ms j 0)) t (c.below j (true-le (suc j) low y)) ∙ sym y)
      (λ y. le-false (suc (get_or ms j 0)) t (omega (
        arith,
        c.above j (omega (
          arith,
          false-le (suc j) low
              y,
        )) l,
      )) ∙ sym y)
