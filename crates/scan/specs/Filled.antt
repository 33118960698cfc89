-- Intervals at the front of a lent list, two numbers each: as many as there is room for (`filled`), and one
-- more behind others (`with_pair`). That the rest of the list is untouched where there is room for all is
-- proved in `proofs/FilledFacts.antt`.
use Rattle.std.specs.Prelude.{ℕ, zero, suc, List, [], ◌∷◌}
use Rattle.foundation.specs.declared.Interval.{Interval}

-- the pair a, b in the place behind c pairs, if the list has such a place
unfoldable pub with_pair : ℕ → ℕ → ℕ → List ℕ → List ℕ
with_pair c a b [] = []
with_pair c a b (x ∷ []) = x ∷ []
with_pair zero a b (x ∷ y ∷ l) = a ∷ b ∷ l
with_pair (suc c) a b (x ∷ y ∷ l) = x ∷ y ∷ with_pair c a b l

-- the intervals at the front of the list, as many as it has room for
unfoldable pub filled : List Interval → List ℕ → List ℕ
filled [] l = l
filled (i ∷ rest) [] = []
filled (i ∷ rest) (x ∷ []) = x ∷ []
filled (i ∷ rest) (x ∷ y ∷ l) = i.start ∷ i.end ∷ filled rest l
