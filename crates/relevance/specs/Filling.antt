-- What a window is filled with.
use Rattle.std.specs.Prelude.{◌≡◌, ℕ, suc, ◌-◌, ◌<◌, ◌≤◌, true, List, length, slice_index, slice_index_or}
use Rattle.foundation.specs.Marks.{clear}
use Rattle.windows.specs.Windows.{Rising}
use Rattle.relevance.specs.declared.filling.Filled.{Filled}

-- the instants of a window from `from` on and none behind `to`, at most `width`, and the next one behind
-- them; no mark lies between two neighbours
pub record Fills (ms : List ℕ) (from to width : ℕ) (marks : List ℕ) (r : Filled) : Type 0 where
  pub full : length marks ≡ 63
  pub some : 1 ≤ r.count
  pub few : r.count ≤ width
  pub first : slice_index_or marks 0 0 ≡ from
  pub rising : Rising r.count marks
  pub between : (i : ℕ) → suc i < r.count → clear ms (slice_index marks i) (slice_index marks (suc i) - 1) ≡ true
  pub within : (i : ℕ) → i < r.count → slice_index marks i ≤ to
  pub last : slice_index_or marks (r.count - 1) 0 < r.next
  pub behind : clear ms (slice_index marks (r.count - 1)) (r.next - 1) ≡ true
  pub bounded : r.next ≤ 4294967296
  pub whole : r.count < width → to < r.next
