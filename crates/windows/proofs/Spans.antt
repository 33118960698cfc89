-- The instants of an interval lie side by side in a window: from the first that is not below its start up to
-- the first that is behind its end.
use mathlib.Core.Path.{◌≡◌, sym, ◌∙◌}
use mathlib.Core.Bool.{true, false, ◌&&◌}
use mathlib.Core.List.{List}
use Prim.Native.Nat.{ℕ, suc, ◌+◌, ◌^◌, ◌≤◌, ◌<◌}
use native.Mathlib.Nat.{zero-div}
use native.Mathlib.Omega.{arith}
use lib.Dec.{leb, ltb}
use lib.ListN.{get_or}
use Rattle.foundation.specs.declared.Interval.{Interval}
use Rattle.foundation.specs.Tests.{cases, agree, le-true, le-false, true-le, false-le, and-true, and_intro}
use Rattle.foundation.specs.Intervals.{in_interval, in_interval_in, in_interval-true}
use Rattle.foundation.specs.BitMasks.{bit}
use Rattle.windows.specs.Windows.{inside}

module _ (n : ℕ) (ms : List ℕ) (i : Interval) (a e : ℕ) (few : e ≤ n)
    (low : (j : ℕ) → j < n → ltb (get_or ms j 0) i.start ≡ ltb j a)
    (high : (j : ℕ) → j < n → ltb (get_or ms j 0) (i.end + 1) ≡ ltb j e) where
  -- an instant between the two lies in the interval, and no other
  pub between : (j : ℕ) → leb a j && ltb j e ≡ inside n ms i j
  between j = agree (leb a j && ltb j e) (inside n ms i j) there back
    where
      there : leb a j && ltb j e ≡ true → inside n ms i j ≡ true
      there y =
          let w = and-true (leb a j) (ltb j e) y in
          let p = true-le a j w.0 in
          let q = true-le (suc j) e w.1 in
          let l : j < n = omega arith in
          let s = false-le (suc (get_or ms j 0)) i.start (low j l ∙ le-false (suc j) a (omega arith)) in
          let f = true-le (suc (get_or ms j 0)) (i.end + 1) (high j l ∙ w.1) in
          and_intro (ltb j n) (in_interval i (get_or ms j 0)) (le-true (suc j) n (omega arith))
          (in_interval_in i (get_or ms j 0) (omega arith) (omega arith))

      back : inside n ms i j ≡ true → leb a j && ltb j e ≡ true
      back y =
          let w = and-true (ltb j n) (in_interval i (get_or ms j 0)) y in
          let l = true-le (suc j) n w.0 in
          let b = in_interval-true i (get_or ms j 0) w.1 in
          let s = false-le (suc j) a (sym (low j l)
          ∙ le-false (suc (get_or ms j 0)) i.start (omega arith)) in
          let f = sym (high j l) ∙ le-true (suc (get_or ms j 0)) (i.end + 1) (omega arith) in
          and_intro (leb a j) (ltb j e) (le-true a j (omega arith)) f

  -- where there are none, none does
  pub no_instant : e ≤ a → (j : ℕ) → bit j 0 ≡ inside n ms i j
  no_instant h j = rw (zero-div (2 ^ j)) (sym (sym (between j) ∙ none))
    where
      none : leb a j && ltb j e ≡ false
      none = cases (leb a j)
          (λ y. rw y (le-false (suc j) e (omega (arith, true-le a j y))))
          (λ y. rw y)
