-- The operators from one instant to the next: what an operator allows at an instant follows from what it
-- allowed at the instant before, and from the right side now (`operate-first`, `operate-step`).
use mathlib.Core.Path.{◌≡◌, refl}
use Prim.Native.Nat.{ℕ, suc, ◌≤◌}
use native.Mathlib.Omega.{arith}
use mathlib.Core.Bool.{Bool, true, not, ◌&&◌, ◌||◌, false≢true}
use lib.Dec.{leb}
use Rattle.foundation.specs.Tests.{cases, agree, true-le, false-le, and-true, and_intro}
use Rattle.foundation.specs.Intervals.{always, always_all, all_always}
use Rattle.model.specs.declared.Operator.{Operator}
use Rattle.model.specs.declared.Operator.TheVariants.{Whenever, AsLongAs, WheneverNot, Unless}
use Rattle.model.specs.Stratification.{negating, lasting}
use Rattle.model.specs.Rules.{operate}

-- what the operator wants of the right side now: that it is held, or that it is not
abbrev pub sense : Operator → Bool → Bool
sense Whenever b = b
sense AsLongAs b = b
sense WheneverNot b = not b
sense Unless b = not b

-- ---- one instant more

always_one : (a : ℕ) (f : ℕ → Bool) → always a a f ≡ f a
always_one a f = agree (always a a f) (f a)
    (λ e. always_all a a f e a (omega arith) (omega arith))
    (λ e. all_always a a f (λ u p q. let m : u ≡ a = omega arith in rw m e))

always-step : (a t : ℕ) (f : ℕ → Bool) → a ≤ t → always a (suc t) f ≡ always a t f && f (suc t)
always-step a t f h = agree (always a (suc t) f) (always a t f && f (suc t))
    (λ e. and_intro (always a t f) (f (suc t))
    (all_always a t f (λ u p q. always_all a (suc t) f e u p (omega arith)))
    (always_all a (suc t) f e (suc t) (omega arith) (omega arith)))
    (λ e. let w = and-true (always a t f) (f (suc t)) e in
    all_always a (suc t) f (λ u p q. cases (leb u t)
    (λ l. always_all a t f w.0 u p (true-le u t l))
    (λ l. let n = false-le u t l in let m : u ≡ suc t = omega arith in rw m w.1)))

-- at the rule's start there is nothing to look back to
pub operate-first : (o : Operator) (f : ℕ → Bool) (a : ℕ) → operate always o f f a a ≡ sense o (f a)
operate-first Whenever f a = refl
operate-first AsLongAs f a = always_one a f
operate-first WheneverNot f a = refl
operate-first Unless f a = always_one a (λ u. not (f u))

pub operate-step : (o : Operator) (f : ℕ → Bool) (a t : ℕ) → a ≤ t →
    operate always o f f a (suc t) ≡ (not (lasting o) || operate always o f f a t) && sense o (f (suc t))
operate-step Whenever f a t h = refl
operate-step AsLongAs f a t h = always-step a t f h
operate-step WheneverNot f a t h = refl
operate-step Unless f a t h = always-step a t (λ u. not (f u)) h

-- ---- consequences of one allowance

-- what an operator that looks back allows now, it allowed at the instant before
pub operate-back : (o : Operator) (f g : ℕ → Bool) (a u t : ℕ) → lasting o ≡ true → suc u ≡ t →
    operate always o f g a t ≡ true → operate always o f g a u ≡ true
operate-back Whenever f g a u t l h e = absurd (false≢true l)
operate-back AsLongAs f g a u t l h e = all_always a u f (λ v p q. always_all a t f e v p (omega arith))
operate-back WheneverNot f g a u t l h e = absurd (false≢true l)
operate-back Unless f g a u t l h e =
    all_always a u (λ v. not (g v)) (λ v p q. always_all a t (λ v. not (g v)) e v p (omega arith))

-- and the right side is now as it wants, read as c: what holds by c is no less than what holds by the right
-- side that it looks at, and for a negating operator the same
pub operate-now : (o : Operator) (f g : ℕ → Bool) (c : Bool) (a t : ℕ) → a ≤ t → (f t ≡ true → c ≡ true) →
    (negating o ≡ true → g t ≡ c) → operate always o f g a t ≡ true → sense o c ≡ true
operate-now Whenever f g c a t h p q e = p e
operate-now AsLongAs f g c a t h p q e = p (always_all a t f e t h (omega arith))
operate-now WheneverNot f g c a t h p q e = rw (q refl) at e
operate-now Unless f g c a t h p q e = rw (q refl) at (always_all a t (λ u. not (g u)) e t h (omega arith))

-- a right side b that is held no less than a, and for a negating operator the same, is as the operator wants
-- if a is
pub sense_more : (o : Operator) (a b : Bool) → (a ≡ true → b ≡ true) → (negating o ≡ true → a ≡ b) →
    sense o a ≡ true → sense o b ≡ true
sense_more Whenever a b p q e = p e
sense_more AsLongAs a b p q e = p e
sense_more WheneverNot a b p q e = rw (q refl) at e
sense_more Unless a b p q e = rw (q refl) at e
