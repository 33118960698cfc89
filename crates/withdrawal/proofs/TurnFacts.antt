-- A turn of a round: which pieces go in for an authorization of the base, how many are passed over
-- (`leading-left`), and what is answered.
use mathlib.Core.Path.{◌≡◌, refl, ap, ◌∙◌, subst}
use mathlib.Core.Logic.{inl, inr}
use Prim.Native.Nat.{ℕ, suc, ◌+◌, ◌≤◌, ◌<◌}
use native.Mathlib.Omega.{arith}
use mathlib.Core.Bool.{Bool, true, false}
use mathlib.Core.List.{List, [], ◌∷◌, ◌++◌}
use lib.Dec.{leb, eqb}
use lib.ListN.{length, drop}
use Rattle.foundation.specs.Tests.{le-true, le-false, eq_true, ne_false, and_intro, and-false}
use Rattle.foundation.specs.Lists.{Mem, placed}
use Rattle.model.specs.declared.Head.{Head}
use Rattle.model.specs.declared.Authorization.{Authorization}
use Rattle.model.specs.Withdrawal.{pieces, keep}
use Rattle.laws.specs.KeepFacts.{intervals_of, piece_of_lem, pieces_of, Precedes}
use Rattle.pieces.specs.declared.cut.Cut.{Cut}
use Rattle.pieces.specs.declared.cut.Stretch.{Stretch}
use Rattle.std.specs.Prelude.{Result, Ok, Err}
use Rattle.pieces.specs.declared.body.Full.{Full}
use Rattle.pieces.specs.Puts.{Puts}
use Rattle.pieces.proofs.StretchFacts.{stretch-true}
use Rattle.withdrawal.proofs.StayFacts.{left}
use Rattle.pieces.specs.Cuts.{taken_of}
use Rattle.pieces.proofs.BodyFacts.{placed_none}
use Rattle.pieces.specs.CutParts.{parts_of}
use Rattle.withdrawal.specs.Times.{among}
use Rattle.withdrawal.specs.RoundTurns.{piece_of, leading, in_of, by_of, TurnMakes}

-- ---- passing over pieces

leading_all : (p : Authorization → Bool) (xs ys : List Authorization) →
    ((x : Authorization) → Mem x xs → p x ≡ true) → leading p (xs ++ ys) ≡ length xs + leading p ys
leading_all p [] ys h = omega arith
leading_all p (x ∷ xs) ys h = rw (h x (inl refl), leading_all p xs ys (λ y m. h y (inr m))) (omega arith)

leading_none : (p : Authorization → Bool) (xs : List Authorization) →
    ((x : Authorization) → Mem x xs → p x ≡ false) →
    leading p xs ≡ 0
leading_none p [] h = refl
leading_none p (x ∷ xs) h = rw (h x (inl refl))

-- a piece of one that stands behind a is no piece of a
not_piece : (a k x : Authorization) → Precedes a k → x.head ≡ k.head →
    k.interval.start ≤ x.interval.start →
    piece_of a x ≡ false
not_piece a k x (inl p) e s =
    rw (ne_false x.head.label a.head.label (λ z. omega (arith, ap (λ (h : Head). h.label) e)))
not_piece a k x (inr p) e s =
    rw (le-false x.interval.start a.interval.end (omega arith))
    (and-false (eqb x.head.label a.head.label))

-- what r leaves of a stands in front
pub leading_left : (r : Head → ℕ → Bool) (a : Authorization) (ys : List Authorization) →
    ((k : Authorization) → Mem k ys → Precedes a k) →
    leading (piece_of a) (left r a ++ keep r ys) ≡ length (left r a)
unfolding left
leading_left r a ys s =
    leading_all (piece_of a) (pieces a.head (intervals_of r a)) (keep r ys)
    (λ x m. let w = piece_of_lem r a x m in
    and_intro (eqb x.head.label a.head.label) (leb x.interval.start a.interval.end)
    (eq_true x.head.label a.head.label (ap (λ (h : Head). h.label) w.0))
    (le-true x.interval.start a.interval.end (omega arith)))
    ∙ ap (λ (n : ℕ). length (pieces a.head (intervals_of r a)) + n)
    (leading_none (piece_of a) (keep r ys)
    (λ x m. let w = pieces_of r ys x m in not_piece a w.0 x (s w.0 w.1) w.2.0 w.2.2))
    ∙ omega arith

-- ---- what a turn answers

module _ (c : Cut) (T U : ℕ) (root : Bool) (os : List Authorization) (a : Authorization) (pos : ℕ) where
  abbrev Turned : Result ℕ Full → List Authorization → Type 0
  Turned r zs = TurnMakes pos (in_of c T U root os a) (by_of T a (drop pos os)) os r zs

  -- granted in the round
  module _ (e : among T U a ≡ true) (taken : Stretch) (f : taken ≡ taken_of c a.head)
      (root' : Bool) (g : root' ≡ root) where
    goes_in : parts_of taken root' os a ≡ in_of c T U root os a
    goes_in = rw e (λ i. parts_of (f i) (g i) os a)

    none_by : by_of T a (drop pos os) ≡ 0
    none_by = let i = stretch-true T U a.head.granted e in rw (le-false (suc a.head.granted) T (omega arith))

    pub turn_in_lem : (r : Result ℕ Full) (zs : List Authorization) →
        Puts pos (parts_of taken root' os a) os r zs → Turned r zs
    turn_in_lem (Ok p) zs h = (
      h.0 ∙ ap (λ (x : List Authorization). placed pos x os) goes_in,
      omega (arith, h.1, none_by, ap (λ (x : List Authorization). length x) goes_in),
    )
    turn_in_lem (Err w) zs h = subst (λ (x : List Authorization). 1024 < length (placed pos x os)) goes_in h

  -- not so
  module _ (e : among T U a ≡ false) where
    nothing_in : os ≡ placed pos (in_of c T U root os a) os
    nothing_in = rw (e, placed_none pos os)

    stays_long : length (in_of c T U root os a) ≡ 0
    stays_long = rw e

    pub turn_by : (p : ℕ) → a.head.granted < T → p ≡ pos + leading (piece_of a) (drop pos os) →
        Turned (Ok p) os
    turn_by p h q =
        let z : by_of T a (drop pos os) ≡ leading (piece_of a) (drop pos os) =
        rw (le-true (suc a.head.granted) T h) in
        (nothing_in, omega (arith, z, q, stays_long))

    pub turn_out : T ≤ a.head.granted → Turned (Ok pos) os
    turn_out h =
        let z : by_of T a (drop pos os) ≡ 0 = rw (le-false (suc a.head.granted) T (omega arith)) in
        (nothing_in, omega (arith, z, stays_long))
