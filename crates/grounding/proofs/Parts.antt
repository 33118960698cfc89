-- The words that are worked in: fields, and broken bits behind them. What one of the two was lent for leaves
-- the other as it was.
use mathlib.Core.Path.{◌≡◌, sym, ap, ap₂, ◌∙◌}
use mathlib.Core.List.{List, ◌++◌, append-nil}
use Prim.Native.Nat.{ℕ, suc, ◌+◌, ◌*◌, ◌-◌, ◌≤◌, ◌<◌}
use native.Mathlib.Nat.{min-le_left}
use native.Mathlib.Omega.{arith}
use lib.Dec.{ltb}
use lib.ListN.{length, get_or, take, drop, length-append, length-drop, take-append-drop}
use lib.ListN.{length-take, drop_of_length-le, get_or-eq_default}
use lib.Seq.{take_at, drop_at, length-take-le, get_or-take}
use Rattle.foundation.specs.Tests.{cases, true-le, false-le}
use Rattle.sections.specs.Sections.{listed_of}
use Rattle.foundation.specs.Lists.{lent_rest}

-- words of a front are as small as all are
pub front_below : (k : ℕ) (l : List ℕ) (m : ℕ) → 0 < m → ((i : ℕ) → get_or l i 0 < m) → (i : ℕ) →
    get_or (take k l) i 0 < m
front_below k l m z h i = cases (ltb i k)
    (λ e. rw (get_or-take k l i 0 (true-le (suc i) k e)) (h i))
    (λ e. rw (get_or-eq_default (take k l) 0 {n = i}
    (omega (arith, length-take k l, min-le_left k (length l), false-le (suc i) k e))) z)

-- the pairs that are listed, as they are lent: a front of what is behind the numbers
abbrev pub lent_of : ℕ → List ℕ → List ℕ
lent_of size numbers = take size (take (length numbers - size) (drop size numbers))

pub lent_all : (size : ℕ) (numbers : List ℕ) → lent_of size numbers ≡ listed_of size numbers
lent_all size numbers = ap (take size) (lent_rest size numbers)

pub lent_length : (size : ℕ) (numbers : List ℕ) → 2 * size ≤ length numbers →
    length (lent_of size numbers) ≡ size
lent_length size numbers h = ap length (lent_all size numbers)
    ∙ length-take-le size (drop size numbers) (omega (arith, length-drop size numbers))

module _ (k : ℕ) (w : List ℕ) (h : k ≤ length w) where
  module _ (y : List ℕ) (e : length y ≡ length (take k w)) where
    own_length : length y ≡ k
    own_length = e ∙ length-take-le k w h

    -- the fields came back as y
    pub fields_own : take k (y ++ drop k w) ≡ y
    fields_own = take_at y (drop k w) k own_length

    pub fields_rest : drop k (y ++ drop k w) ≡ drop k w
    fields_rest = drop_at y (drop k w) k own_length

  -- the bits came back as y
  module _ (y : List ℕ) where
    abbrev pub bits_back : List ℕ
    bits_back = take k w ++ (y ++ drop (length w - k) (drop k w))

    pub bits_own : drop k bits_back ≡ y
    bits_own = drop_at (take k w) (y ++ drop (length w - k) (drop k w)) k (length-take-le k w h)
        ∙ ap (λ (l : List ℕ). y ++ l)
        (drop_of_length-le (drop k w) {i = length w - k} (omega (arith, length-drop k w)))
        ∙ append-nil y

    pub bits_rest : take k bits_back ≡ take k w
    bits_rest = take_at (take k w) (y ++ drop (length w - k) (drop k w)) k (length-take-le k w h)

-- the length of all by those of both
pub both-length : (k : ℕ) (v w : List ℕ) → length (take k v) ≡ length (take k w) →
    length (drop k v) ≡ length (drop k w) → length v ≡ length w
both-length k v w e d =
    let whole : (l : List ℕ) → length l ≡ length (take k l) + length (drop k l) =
    λ l. sym (ap length (take-append-drop k l)) ∙ length-append (take k l) (drop k l) in
    whole v ∙ ap₂ (λ (a b : ℕ). a + b) e d ∙ sym (whole w)
