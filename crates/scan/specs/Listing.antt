-- WHEN's intervals in a lent list: as many as there is room for (`Filling`), or all or none (`Listing`).
use Rattle.std.specs.Prelude.{◌≡◌, ℕ, ◌*◌, ◌/◌, ◌≤◌, List, ◌++◌, ltb, length, drop}
use Rattle.foundation.specs.Tests.{pick}
use Rattle.foundation.specs.declared.Interval.{Interval}
use Rattle.model.specs.Answers.{words}
use Rattle.scan.specs.Filled.{filled}

-- the intervals are counted, and as many of them as the list has room for stand at its front
pub record Filling (intervals : List Interval) (n : ℕ) (list list' : List ℕ) : Type 0 where
  pub count : n ≡ length intervals
  pub lent : list' ≡ filled intervals list

-- the intervals at the front of the list, if it has room for all of them; else the list as it was
abbrev pub listed_if_room : List Interval → List ℕ → List ℕ
listed_if_room xs list = pick (ltb (length list / 2) (length xs)) list (words xs ++ drop (2 * length xs) list)

-- the intervals are counted, and listed; there are no more than can be
pub record Listing (intervals : List Interval) (n : ℕ) (list list' : List ℕ) : Type 0 where
  pub count : n ≡ length intervals
  pub few : n ≤ 1089
  pub lent : list' ≡ listed_if_room intervals list
