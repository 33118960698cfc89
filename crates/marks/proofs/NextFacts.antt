-- The next of no marks, and of marks in front of others.
use mathlib.Core.Path.{◌≡◌, refl, ap}
use Prim.Native.Nat.{ℕ}
use mathlib.Core.List.{List, [], ◌∷◌, ◌++◌}
use Rattle.foundation.specs.Marks.{next}
use Rattle.marks.specs.NextMarks.{sooner}

-- marks in front of others
pub next_append : (t : ℕ) (xs ys : List ℕ) (d : ℕ) → next t (xs ++ ys) d ≡ next t xs (next t ys d)
unfolding next
next_append t [] ys d = refl
next_append t (x ∷ xs) ys d = ap (sooner t x) (next_append t xs ys d)

-- no marks
pub next_nil : (t d : ℕ) → next t [] d ≡ d
unfolding next
next_nil t d = refl
