-- The first instant of a stretch that passes a test: `first_of` says what it is, and `first-is` that nothing
-- else is.
use mathlib.Core.Path.{◌≡◌, sym, ap, ◌∙◌}
use Prim.Native.Nat.{ℕ, zero, suc, ◌+◌, ◌-◌, ◌≤◌, ◌<◌}
use native.Mathlib.Omega.{arith}
use mathlib.Core.Bool.{Bool, true, false}
use lib.Dec.{leb}
use Rattle.foundation.specs.Tests.{cases, true-le, false-le}
use Rattle.cover.specs.First.{first_from, first}

-- what that says of r
pub record First (g : ℕ → Bool) (a b r : ℕ) : Type 0 where
  pub low : a ≤ r
  pub high : r ≤ b
  pub before : (u : ℕ) → a ≤ u → u < r → g u ≡ false
  pub here : r < b → g r ≡ true

from_is : (g : ℕ → Bool) (n s d r : ℕ) → d ≡ s + n → s ≤ r → r ≤ d →
    ((u : ℕ) → s ≤ u → u < r → g u ≡ false) → (r < d → g r ≡ true) → first_from g s n d ≡ r
from_is g zero s d r e l h b t = omega arith
from_is g (suc n) s d r e l h b t = cases (leb (suc s) r)
    (λ k. let m = true-le (suc s) r k in
    rw (b s (omega arith) m) (from_is g n (suc s) d r (omega arith) m h (λ u p k. b u (omega arith) k) t))
    (λ k. let m = false-le (suc s) r k in let q : r ≡ s = omega arith in
    rw (rw q at (t (omega arith))) (sym q))

pub first_is : (g : ℕ → Bool) (a b r : ℕ) → First g a b r → first g a b ≡ r
unfolding first
first_is g a b r f =
    from_is g (b - a) a b r (omega (arith, f.low, f.high)) f.low f.high f.before f.here

from_of : (g : ℕ → Bool) (n s d : ℕ) → d ≡ s + n → First g s d (first_from g s n d)
from_of g zero s d e = record {
  low = omega arith;
  high = omega arith;
  before = λ u p q. absurd (omega arith);
  here = λ h. absurd (omega arith);
}
from_of g (suc n) s d e = cases (g s)
    (λ q. rw q (record {
      low = omega arith;
      high = omega arith;
      before = λ u p k. absurd (omega arith);
      here = λ h. q;
    }))
    (λ q. let f = from_of g n (suc s) d (omega arith) in
    rw q (record {
      low = omega (arith, f.low);
      high = f.high;
      before = λ u p k. at u p k q f;
      here =
          f.here;
    }))
  where
    at : (u : ℕ) → s ≤ u → u < first_from g (suc s) n d → g s ≡ false →
        First g (suc s) d (first_from g (suc s) n d) →
        g u ≡ false
    at u p k q f = cases (leb (suc s) u)
        (λ j. f.before u (true-le (suc s) u j) k)
        (λ j. let m = false-le (suc s) u j in let z : u ≡ s = omega arith in ap g z ∙ q)

pub first_of : (g : ℕ → Bool) (a b : ℕ) → a ≤ b → First g a b (first g a b)
unfolding first
first_of g a b h = from_of g (b - a) a b (omega arith)

pub first_past : (g : ℕ → Bool) (a b : ℕ) → b ≤ a → first g a b ≡ b
unfolding first
first_past g a b h = let e : b - a ≡ 0 = omega arith in rw e

-- instants that fail are passed over
pub first_skip : (g : ℕ → Bool) (a r b : ℕ) → a ≤ r → a ≤ b → ((u : ℕ) → a ≤ u → u < r → g u ≡ false) →
    first g a b ≡ first g r b
first_skip g a r b h k z = cases (leb r b)
    (λ q. let l = true-le r b q in let f = first_of g r b l in
    first_is g a b (first g r b)
    (record { low = omega (arith, f.low); high = f.high; before = λ u p j. at u p j f; here = f.here }))
    (λ q. let l = false-le r b q in
    first_is g a b b (record {
      low = k;
      high = omega arith;
      before = λ u p j. z u p (omega arith);
      here = λ j. absurd (omega arith);
    })
    ∙ sym (first_past g r b (omega arith)))
  where
    at : (u : ℕ) → a ≤ u → u < first g r b → First g r b (first g r b) → g u ≡ false
    at u p j f = cases (leb r u) (λ q. f.before u (true-le r u q) j) (λ q. z u p (false-le r u q))

pub first_hit : (g : ℕ → Bool) (a b : ℕ) → a < b → g a ≡ true → first g a b ≡ a
first_hit g a b h e = first_is g a b a (record {
  low = omega arith;
  high = omega arith;
  before = λ u p q. absurd (omega arith);
  here = λ _. e;
})
