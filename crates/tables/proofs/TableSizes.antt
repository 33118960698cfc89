-- Tables of a small grid are small.
use mathlib.Core.List.{List}
use Prim.Native.Nat.{ℕ, zero, suc, ◌*◌, ◌≤◌}
use native.Mathlib.Nat.{mul-le-mul}
use native.Mathlib.Omega.{arith}
use Rattle.foundation.specs.Tests.{cases}
use Rattle.foundation.specs.BitMasks.{bit}
use Rattle.places.specs.declared.Grid.{Grid}
use Rattle.places.specs.declared.Region.{Region}
use Rattle.places.specs.Regions.{free, outer_size, mode_size, size_of}
use Rattle.tables.specs.TableLayout.{SmallGrid, region_at, room_of}

module _ (g : Grid) (small : SmallGrid g) where
  outer_small : (b : Region) → outer_size g b ≤ 4225
  outer_small b = cases (free b.subject)
      (λ s. cases (free b.object)
      (λ o. rw (s, o) small.pairs)
      (λ o. rw (s, o) (omega (arith, small.subjects))))
      (λ s. cases (free b.object)
      (λ o. rw (s, o) (omega (arith, small.objects)))
      (λ o. rw (s, o) (omega arith)))

  mode_small : (b : Region) → mode_size g b ≤ 8
  mode_small b = cases (free b.mode) (λ m. rw m small.modes) (λ m. rw m (omega arith))

  pub size_small : (b : Region) → size_of g b ≤ 33800
  unfolding size_of
  size_small b = mul-le-mul (outer_small b) (mode_small b)

  pub room_small : (codes : List ℕ) (rules c : ℕ) → room_of g codes rules c ≤ c * 33800
  unfolding room_of
  room_small codes rules zero = omega arith
  room_small codes rules (suc c) = cases (bit c rules)
      (λ e. rw e (omega (arith, room_small codes rules c, size_small (region_at codes c))))
      (λ e. rw e (omega (arith, room_small codes rules c)))
