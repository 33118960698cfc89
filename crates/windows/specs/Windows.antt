-- A window: up to 63 instants in rising order. What is known at each of them is a bit of a word.
use Rattle.std.specs.Prelude.{Bool, ◌&&◌, List, ℕ, ◌<◌, ltb, get_or}
use Rattle.foundation.specs.declared.Interval.{Interval}
use Rattle.foundation.specs.Intervals.{in_interval}

-- the first n instants rise
abbrev pub Rising : ℕ → List ℕ → Type 0
Rising n ms = (i j : ℕ) → i < j → j < n → get_or ms i 0 < get_or ms j 0

-- the j-th instant of the n lies in the interval
abbrev pub inside : ℕ → List ℕ → Interval → ℕ → Bool
inside n ms i j = ltb j n && in_interval i (get_or ms j 0)
