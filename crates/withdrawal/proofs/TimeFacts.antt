-- What was granted at the times that a round covers stands in the order of its times (`end-ordered`).
use mathlib.Core.Path.{◌≡◌, refl, ap}
use mathlib.Core.Logic.{inl, inr}
use Prim.Native.Nat.{ℕ, ◌+◌, ◌≤◌, ◌<◌}
use native.Mathlib.Omega.{arith}
use mathlib.Core.Bool.{◌&&◌}
use mathlib.Core.List.{List, [], ◌∷◌}
use lib.Dec.{leb}
use Rattle.foundation.specs.Tests.{cases, le-true, true-le, false-le, and-true}
use Rattle.foundation.specs.Lists.{Mem}
use Rattle.model.specs.declared.Authorization.{Authorization}
use Rattle.pieces.specs.Stretches.{in_stretch}
use Rattle.pieces.proofs.StretchFacts.{stretch-true, in_stretch_lem}
use Rattle.withdrawal.specs.Times.{InTime, pull_of, raise_of, end_of}

pub end_nil : (T top d : ℕ) → end_of T [] top d ≡ d
unfolding end_of
end_nil T top d = refl

pub end_cons : (T : ℕ) (a : Authorization) (xs : List Authorization) (top d : ℕ) →
    end_of T (a ∷ xs) top d ≡ end_of T xs (raise_of T a.head.granted top) (pull_of T a.head.granted top d)
unfolding end_of
end_cons T a xs top d = refl

-- what one time makes of the two
module _ (T g top : ℕ) where
  raise_le : top ≤ raise_of T g top
  raise_le = cases (leb T g && leb top g)
      (λ e. let p = true-le top g (and-true (leb T g) (leb top g) e).1 in rw e p)
      (λ e. rw e (omega arith))

  raise_own : T ≤ g → g ≤ raise_of T g top
  raise_own h = cases (leb top g)
      (λ e. rw (le-true T g h, e) (omega arith))
      (λ e. let p = false-le top g e in rw (le-true T g h, e) (omega arith))

module _ (T g top d : ℕ) where
  pull_le : pull_of T g top d ≤ d
  pull_le = cases (in_stretch T top g) (λ e. rw e (omega arith)) (λ e. rw e (omega arith))

  pull_above : T < d → T < pull_of T g top d
  pull_above h = cases (in_stretch T top g)
      (λ e. let p = stretch-true T top g e in rw e (omega arith))
      (λ e. rw e h)

  pull_behind : T ≤ g → g < top → pull_of T g top d ≤ g + 1
  pull_behind h k = rw (in_stretch_lem T top g h k) (omega arith)

pub end-le : (T : ℕ) (xs : List Authorization) (top d : ℕ) → end_of T xs top d ≤ d
unfolding end_of
end-le T [] top d = omega arith
end-le T (a ∷ xs) top d =
    let g = a.head.granted in
    omega (arith, end-le T xs (raise_of T g top) (pull_of T g top d), pull_le T g top d)

pub end-above : (T : ℕ) (xs : List Authorization) (top d : ℕ) → T < d → T < end_of T xs top d
unfolding end_of
end-above T [] top d h = h
end-above T (a ∷ xs) top d h =
    let g = a.head.granted in
    end-above T xs (raise_of T g top) (pull_of T g top d) (pull_above T g top d h)

-- no time behind a later one is before the end but the least
end_early : (T : ℕ) (xs : List Authorization) (top d : ℕ) (k : Authorization) → Mem k xs →
    T ≤ k.head.granted →
    k.head.granted < top → end_of T xs top d ≤ k.head.granted + 1
unfolding end_of
end_early T [] top d k m h z = absurd m.lower
end_early T (a ∷ xs) top d k (inl q) h z =
    let g = a.head.granted in
    let v = ap (λ (x : Authorization). x.head.granted) q in
    let i = end-le T xs (raise_of T g top) (pull_of T g top d) in
    let j = pull_behind T g top d (omega arith) (omega arith) in
    omega arith
end_early T (a ∷ xs) top d k (inr m) h z =
    let g = a.head.granted in
    let r = raise_le T g top in
    end_early T xs (raise_of T g top) (pull_of T g top d) k m h (omega arith)

pub end_ordered : (T : ℕ) (xs : List Authorization) (top d U : ℕ) → end_of T xs top d ≡ U → InTime T U xs
unfolding end_of
end_ordered T [] top d U q = tt
end_ordered T (a ∷ xs) top d U q = (
  (λ p k m r.
      let g = a.head.granted in
      let i = stretch-true T U g p in
      let j = stretch-true T U k.head.granted r in
      let o = raise_own T g top i.0 in
      cases (leb g k.head.granted)
      (λ z. true-le g k.head.granted z)
      (λ z. let z' = false-le g k.head.granted z in
      let y = end_early T xs (raise_of T g top) (pull_of T g top d) k m j.0 (omega arith) in
      absurd (omega arith))),
  end_ordered T xs (raise_of T a.head.granted top) (pull_of T a.head.granted top d) U q,
)
