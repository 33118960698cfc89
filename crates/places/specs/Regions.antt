-- A region names a subject, a mode and an object, or leaves them free. The places of a region are numbered:
-- those of a region that leaves subject and object free by the numbers of their pairs, others by the
-- coordinate that is free, and each of these by mode where the mode is free.
use Rattle.std.specs.Prelude.{◌≡◌, Bool, true, false, ℕ, ◌+◌, ◌*◌, ◌<◌, eqb}
use Rattle.std.specs.Int.Count.{ones}
use Rattle.foundation.specs.Tests.{pick}
use Rattle.foundation.specs.BitMasks.{bit}
use Rattle.places.specs.declared.Grid.{Grid}
use Rattle.places.specs.declared.Region.{Region}
use Rattle.places.specs.declared.Point.{Point}
use Rattle.places.specs.ReachedNumbers.{modes_below}

-- a code that names nothing
abbrev pub free : ℕ → Bool
free code = eqb code 255

-- ---- the index

-- how many numbers subjects and objects take
abbrev pub outer_size : Grid → Region → ℕ
outer_size g b = pick (free b.subject) (pick (free b.object) g.pairs g.subjects)
    (pick (free b.object) g.objects 1)

abbrev pub mode_size : Grid → Region → ℕ
mode_size g b = pick (free b.mode) (ones g.modes) 1

-- the number of a place, n being that of its pair
abbrev pub outer_index : Region → ℕ → Point → ℕ
outer_index b n x = pick (free b.subject) (pick (free b.object) n x.subject)
    (pick (free b.object) x.object 0)

abbrev pub mode_index : Grid → Region → Point → ℕ
mode_index g b x = pick (free b.mode) (modes_below g.modes x.mode) 0

unfoldable pub size_of : Grid → Region → ℕ
size_of g b = outer_size g b * mode_size g b

unfoldable pub index_in : Grid → Region → ℕ → Point → ℕ
index_in g b n x = outer_index b n x * mode_size g b + mode_index g b x

-- ---- its places

-- a place of the grid, n being the number of its pair
pub record Within (g : Grid) (n : ℕ) (x : Point) : Type 0 where
  pub pair : n < g.pairs
  pub subject : x.subject < g.subjects
  pub object : x.object < g.objects
  pub mode : bit x.mode g.modes ≡ true

-- that lies in the region
pub record In (b : Region) (x : Point) : Type 0 where
  pub subject : free b.subject ≡ false → x.subject ≡ b.subject
  pub object : free b.object ≡ false → x.object ≡ b.object
  pub mode : free b.mode ≡ false → x.mode ≡ b.mode
