-- The maximal intervals where a test holds, written down from left to right: what is counted, and in the
-- list, when an instant is reached (`ScannedTo`), and when it has been asked there (`AskedAt`).
use Rattle.std.specs.Prelude.{◌≡◌, ℕ, suc, ◌-◌, ◌≤◌, ◌<◌, Bool, true, List, ◌++◌, ltb, length, get_or, Some}
use Rattle.std.specs.Option.{is_some, unwrap_or}
use Rattle.foundation.specs.Tests.{pick}
use Rattle.foundation.specs.BitMasks.{bit}
use Rattle.foundation.specs.declared.Interval.{Interval}
use Rattle.foundation.specs.Intervals.{maximal}
use Rattle.scan.specs.declared.Track.{Track}
use Rattle.scan.specs.Filled.{filled}

-- the i-th of the n instants of a window, or m, which comes behind the last
abbrev pub instant_at : ℕ → List ℕ → ℕ → ℕ → ℕ
instant_at n ms m i = pick (ltb i n) (get_or ms i 0) m

-- the answers at the n instants of a window are the bits of `yes`, and f does not change from one of them up
-- to the next, nor from the last up to m
pub record Answered (f : ℕ → Bool) (e n : ℕ) (ms : List ℕ) (m yes : ℕ) : Type 0 where
  pub answers : (i : ℕ) → i < n → bit i yes ≡ f (get_or ms i 0)
  pub steady : (i : ℕ) → i < n → (u : ℕ) → get_or ms i 0 ≤ u → u < instant_at n ms m (suc i) →
      f u ≡ f (get_or ms i 0)
  pub behind : get_or ms (n - 1) 0 < m
  pub within : m ≤ suc e

-- the instants are inside an interval
abbrev pub inside : Track → Bool
inside w = is_some w.began

-- where it began, or t
abbrev pub open_from : Track → ℕ → ℕ
open_from w t = unwrap_or w.began t

-- `lent` is the list as it was lent
module _ (f : ℕ → Bool) (e : ℕ) (lent : List ℕ) where
  -- `count` intervals are done, as many of them in the list as it has room for, and the others begin at
  -- `from` on
  pub record Listed (count from : ℕ) (list : List ℕ) : Type 0 where
    pub done : List Interval
    pub all : maximal 0 e f ≡ done ++ maximal from e f
    pub count_is : count ≡ length done
    pub list_is : list ≡ filled done lent

  -- f holds from a on, before t
  abbrev pub Holding : ℕ → ℕ → Type 0
  Holding a t = (u : ℕ) → a ≤ u → u < t → f u ≡ true

  -- the instant t is reached: an interval is open that began before t, or none is
  pub record ScannedTo (t : ℕ) (w : Track) (list : List ℕ) : Type 0 where
    pub listed : Listed w.count (open_from w t) list
    pub held : (from : ℕ) → w.began ≡ Some from → (from < t) × Holding from t

  -- and f has been asked there
  pub record AskedAt (t : ℕ) (w : Track) (list : List ℕ) : Type 0 where
    pub listed : Listed w.count (open_from w t) list
    pub held : (from : ℕ) → w.began ≡ Some from → (from ≤ t) × Holding from t
    pub answer : inside w ≡ f t
