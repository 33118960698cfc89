-- What is given to the tables: bits are joined to the fields of one place in those tables that take them and
-- have the place. All other fields stay (`TablesGiven`).
use Rattle.std.specs.Prelude.{◌≡◌, Bool, ◌&&◌, List, ℕ, zero, suc, ◌+◌, ◌*◌, ◌≤◌, eqb, length, replicate}
use Rattle.std.specs.Int.Bits.{bit_or}
use Rattle.foundation.specs.Tests.{pick}
use Rattle.foundation.specs.BitMasks.{bit}
use Rattle.words.specs.Fields.{starts, field_of}
use Rattle.places.specs.declared.Region.{Region}
use Rattle.places.specs.declared.Point.{Point}
use Rattle.places.specs.Regions.{size_of, Within}
use Rattle.tables.specs.declared.Frame.{Frame}
use Rattle.tables.specs.declared.Place.{Place}
use Rattle.tables.specs.TableLayout.{Tables, field_in, TablesLaid, Paired, Has, all_tables}

-- ---- the tables of a frame

-- the codes of all places, for each rule
unfoldable pub whole_codes : List ℕ
whole_codes = replicate 256 255

-- the regions of the tables of rules: all places, or those of the right sides
abbrev pub shapes_by : Bool → List ℕ → List ℕ
shapes_by wide right = pick wide whole_codes right

abbrev pub shapes_of : Frame → List ℕ → List ℕ
shapes_of f = shapes_by f.wide

abbrev pub tables_of : Frame → List ℕ → List ℕ → Tables
tables_of f right first = all_tables f.grid (shapes_of f right) f.tables first

-- they are laid out, and words of a length have room for all of their fields
pub record TablesReady (f : Frame) (right first : List ℕ) (size : ℕ) : Type 0 where
  pub laid : TablesLaid (tables_of f right first) 0 f.fields
  pub narrow : f.width ≤ 6
  pub fits : starts f.width f.fields ≤ 64 * size
  pub rights : 256 ≤ length right
  pub firsts : 64 ≤ length first

-- the table of a region that starts at a field has the place, and words of a length have room for it
pub record Reaches (f : Frame) (from : ℕ) (b : Region) (p : Place) (size : ℕ) : Type 0 where
  pub narrow : f.width ≤ 6
  pub fits : starts f.width f.fields ≤ 64 * size
  pub high : from + size_of f.grid b ≤ f.fields
  pub within : Within f.grid p.pair p.point

-- ---- which tables take

-- the table of rule c
abbrev pub rule_table : ℕ → ℕ → Bool
rule_table c d = eqb d (suc (suc c))

-- that of the sign, 0 or 1, and those of the rules of a mask
abbrev pub table_takes : ℕ → ℕ → ℕ → Bool
table_takes sign takers zero = eqb 0 sign
table_takes sign takers (suc zero) = eqb 1 sign
table_takes sign takers (suc (suc c)) = bit c takers

-- ---- what is given

-- one place
abbrev pub same_place : Point → Point → Bool
same_place x y = eqb x.subject y.subject && eqb x.object y.object && eqb x.mode y.mode

-- v is joined to the fields, of width k, of a place x in the tables that take it; n is the number of its pair
pub record TablesGiven (t : Tables) (k n : ℕ) (x : Point) (taken : ℕ → Bool) (v : ℕ)
    (old new : List ℕ) : Type 0
  where
    pub lengths : length new ≡ length old
    pub fields : (c m : ℕ) (y : Point) → Has t c m y → Paired m y n x →
        field_of k new (field_in t c m y)
        ≡ pick (taken c && same_place y x)
        (bit_or (field_of k old (field_in t c m y)) v)
        (field_of k old (field_in t c m y))
