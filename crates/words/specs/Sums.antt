-- Words that only gain bits: their sum grows with each change, so that changes come to an end.
use Rattle.std.specs.Prelude.{◌≡◌, Bool, true, false, List, [], ◌∷◌, ℕ, ◌+◌, ◌<◌}

abbrev pub sum : List ℕ → ℕ
sum [] = 0
sum (x ∷ l) = x + sum l

-- nothing is new, and all is as before; or something is, and the sum is larger
pub record SumGrown (fresh : Bool) (old new : List ℕ) : Type 0 where
  pub same : fresh ≡ false → new ≡ old
  pub more : fresh ≡ true → sum old < sum new
