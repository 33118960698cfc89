-- Tables of fields: each has a region of places and lies from its offset on, a field for each place of the
-- region. Tables lie one behind the other (`TablesLaid`).
use Rattle.std.specs.Prelude.{◌≡◌, Bool, true, List, ◌↔◌, ℕ, zero, suc, ◌+◌, ◌*◌, ◌≤◌, ◌<◌, get_or}
use Rattle.std.specs.Int.Count.{ones}
use Rattle.foundation.specs.Tests.{pick}
use Rattle.foundation.specs.BitMasks.{bit}
use Rattle.places.specs.declared.Grid.{Grid}
use Rattle.places.specs.declared.Region.{Region}
use Rattle.places.specs.declared.Point.{Point}
use Rattle.places.specs.Regions.{size_of, index_in, Within, In}

-- ---- tables

-- which numbers are tables, where each starts, and the region of each
pub record Tables : Type 0 where
  pub grid : Grid
  pub there : ℕ → Bool
  pub offset : ℕ → ℕ
  pub region : ℕ → Region

-- how many fields table c has
abbrev pub size_in : Tables → ℕ → ℕ
size_in t c = size_of t.grid (t.region c)

-- the field of a place in table c, n being the number of its pair
abbrev pub field_in : Tables → ℕ → ℕ → Point → ℕ
field_in t c n x = t.offset c + index_in t.grid (t.region c) n x

-- the tables lie one behind the other, between two numbers
pub record TablesLaid (t : Tables) (from to : ℕ) : Type 0 where
  pub room : from ≤ to
  pub low : (c : ℕ) → t.there c ≡ true → from ≤ t.offset c
  pub high : (c : ℕ) → t.there c ≡ true → t.offset c + size_in t c ≤ to
  pub behind : (c d : ℕ) → t.there c ≡ true → t.there d ≡ true → c < d →
      t.offset c + size_in t c ≤ t.offset d

-- two places have one pair exactly if their pairs have one number
abbrev pub Paired : ℕ → Point → ℕ → Point → Type 0
Paired n x m y = (n ≡ m) ↔ ((x.subject ≡ y.subject) × (x.object ≡ y.object))

-- a place of the region of table c, n being the number of its pair
pub record Has (t : Tables) (c n : ℕ) (x : Point) : Type 0 where
  pub table : t.there c ≡ true
  pub within : Within t.grid n x
  pub inside : In (t.region c) x

-- ---- the tables of rules

-- the region whose codes stand with rule c
abbrev pub region_at : List ℕ → ℕ → Region
region_at codes c =
    record {
      subject = get_or codes (4 * c + 1) 0;
      mode = get_or codes (4 * c + 2) 0;
      object = get_or codes (4 * c) 0;
    }

-- a table for each rule of a mask
abbrev pub rule_tables : Grid → List ℕ → ℕ → List ℕ → Tables
rule_tables g codes rules first =
    record { grid = g; there = λ c. bit c rules; offset = λ c. get_or first c 0; region = region_at codes }

-- how many fields the tables of the first c rules have
unfoldable pub room_of : Grid → List ℕ → ℕ → ℕ → ℕ
room_of g codes rules zero = 0
room_of g codes rules (suc c) =
    room_of g codes rules c + pick (bit c rules) (size_of g (region_at codes c)) 0

-- ---- sizes

-- few subjects, objects and modes: 64 rules name at most 64 subjects and as many objects; there are 8 modes
pub record SmallGrid (g : Grid) : Type 0 where
  pub subjects : g.subjects ≤ 65
  pub objects : g.objects ≤ 65
  pub pairs : g.pairs ≤ 4225
  pub modes : ones g.modes ≤ 8

-- ---- all tables

-- the region of all places
abbrev pub whole_region : Region
whole_region = record { subject = 255; mode = 255; object = 255 }

-- what is held is table 0, what is denied table 1, and table 2 + c is that of rule c
abbrev pub is_there : ℕ → ℕ → Bool
is_there rules zero = true
is_there rules (suc zero) = true
is_there rules (suc (suc c)) = bit c rules

abbrev pub offset_of : Grid → List ℕ → ℕ → ℕ
offset_of g first zero = 0
offset_of g first (suc zero) = size_of g whole_region
offset_of g first (suc (suc c)) = get_or first c 0

abbrev pub region_of : List ℕ → ℕ → Region
region_of right zero = whole_region
region_of right (suc zero) = whole_region
region_of right (suc (suc c)) = region_at right c

abbrev pub all_tables : Grid → List ℕ → ℕ → List ℕ → Tables
all_tables g right rules first =
    record { grid = g; there = is_there rules; offset = offset_of g first; region = region_of right }
