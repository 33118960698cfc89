-- Intervals at the front of a lent list: one more behind others; all of them, if there is room. Assumes
-- nothing.
use mathlib.Core.Path.{◌≡◌, refl, sym, ap, ◌∙◌}
use Prim.Native.Nat.{ℕ, zero, suc, ◌+◌, ◌*◌, ◌/◌, ◌≤◌, ◌<◌}
use native.Mathlib.Omega.{arith}
use mathlib.Core.Bool.{Bool}
use mathlib.Core.List.{List, [], ◌∷◌, ◌++◌}
use lib.ListN.{length, set, drop}
use Rattle.foundation.specs.Tests.{pick, le-true, le-false}
use Rattle.foundation.specs.declared.Interval.{Interval}
use Rattle.model.specs.Answers.{words}
use Rattle.scan.specs.Filled.{with_pair, filled}
use Rattle.scan.specs.Listing.{listed_if_room}

-- one interval more
pub filled_more : (done : List Interval) (i : Interval) (l : List ℕ) →
    filled (done ++ (i ∷ [])) l ≡ with_pair (length done) i.start i.end (filled done l)
unfolding filled with_pair
filled_more [] i [] = refl
filled_more [] i (x ∷ []) = refl
filled_more [] i (x ∷ y ∷ l) = refl
filled_more (d ∷ done) i [] = refl
filled_more (d ∷ done) i (x ∷ []) = refl
filled_more (d ∷ done) i (x ∷ y ∷ l) = ap (λ (k : List ℕ). d.start ∷ d.end ∷ k) (filled_more done i l)

-- all of them, and the rest untouched
pub filled_all : (xs : List Interval) (l : List ℕ) → 2 * length xs ≤ length l →
    filled xs l ≡ words xs ++ drop (2 * length xs) l
unfolding filled
filled_all [] l h = refl
filled_all (i ∷ xs) [] h = absurd (omega arith)
filled_all (i ∷ xs) (x ∷ []) h = absurd (omega arith)
filled_all (i ∷ xs) (x ∷ y ∷ l) h =
    let e : 2 * length (i ∷ xs) ≡ suc (suc (2 * length xs)) = omega arith in
    ap (λ (k : List ℕ). i.start ∷ i.end ∷ k) (filled_all xs l (omega arith))
    ∙ ap (λ (n : ℕ). i.start ∷ i.end ∷ (words xs ++ drop n (x ∷ y ∷ l))) (sym e)

-- a pair put by its two numbers
pub pair_put : (c a b : ℕ) (l : List ℕ) → 2 * c + 1 < length l →
    set (set l (2 * c) a) (2 * c + 1) b ≡ with_pair c a b l
unfolding with_pair
pair_put c a b [] h = absurd (omega arith)
pair_put c a b (x ∷ []) h = absurd (omega arith)
pair_put zero a b (x ∷ y ∷ l) h = refl
pair_put (suc c) a b (x ∷ y ∷ l) h =
    let e : 2 * suc c ≡ suc (suc (2 * c)) = omega arith in
    let g : 2 * suc c + 1 ≡ suc (suc (2 * c + 1)) = omega arith in
    (λ i. set (set (x ∷ y ∷ l) (e i) a) (g i) b)
    ∙ ap (λ (k : List ℕ). x ∷ y ∷ k) (pair_put c a b l (omega arith))

-- no room for it
pub pair_left : (c a b : ℕ) (l : List ℕ) → length l ≤ 2 * c + 1 → with_pair c a b l ≡ l
unfolding with_pair
pair_left c a b [] h = refl
pair_left c a b (x ∷ []) h = refl
pair_left zero a b (x ∷ y ∷ l) h = absurd (omega arith)
pair_left (suc c) a b (x ∷ y ∷ l) h =
    ap (λ (k : List ℕ). x ∷ y ∷ k) (pair_left c a b l (omega arith))

-- the list is too short, or not
pub listed_if_room-short : (xs : List Interval) (list : List ℕ) → length list / 2 < length xs → listed_if_room xs
    list ≡ list
listed_if_room-short xs list h =
    ap (λ (g : Bool). pick g list (words xs ++ drop (2 * length xs) list))
    (le-true (suc (length list / 2)) (length xs) h)

pub listed_if_room_all : (xs : List Interval) (list : List ℕ) → length xs ≤ length list / 2 →
    listed_if_room xs list ≡ words xs ++ drop (2 * length xs) list
listed_if_room_all xs list h =
    ap (λ (g : Bool). pick g list (words xs ++ drop (2 * length xs) list))
    (le-false (suc (length list / 2)) (length xs) (omega arith))
