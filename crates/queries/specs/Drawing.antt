-- How the tables of a question come about: the rules are outlined for the asked access (`Outline`), places
-- are reached and numbered (`Mapped`), and the tables of fields and of broken bits are laid out (`Arranged`).
use Rattle.std.specs.Prelude.{◌≡◌, true, ◌&&◌, List, ℕ, ◌*◌, ◌/◌, ◌≤◌, ◌<◌, eqb, length, get_or}
use Rattle.std.specs.Int.Bits.{bit_and}
use Rattle.foundation.specs.Tests.{pick}
use Rattle.foundation.specs.BitMasks.{bit, mask_of}
use Rattle.model.specs.declared.Access.{Access}
use Rattle.model.specs.Base.{Base}
use Rattle.encoding.specs.Format.{rules_in, rule_at}
use Rattle.model.specs.Stratification.{lasting}
use Rattle.reach.specs.Net.{ClosedNet, Only}
use Rattle.places.specs.declared.Grid.{Grid}
use Rattle.places.specs.ReachedNumbers.{used, used_before, code_of}
use Rattle.places.specs.Needs.{either_at}
use Rattle.tables.specs.declared.Frame.{Frame}
use Rattle.tables.specs.TableLayout.{TablesLaid, rule_tables, room_of}
use Rattle.outlines.specs.Coordinates.{WellFormed, Chart, Charted}
use Rattle.outlines.specs.Outline.{RightSides, LeftSides}
use Rattle.outlines.specs.LeftMasks.{Masked, Owned}
use Rattle.outlines.specs.Feed.{is_choosy, FeedTable}
use Rattle.facts.specs.Sharing.{TablesArranged}
use Rattle.queries.specs.declared.Extent.{Extent}

-- ---- the asked access

-- one that has a coordinate by the tables is named by 0, which nobody has
abbrev pub own_in : List ℕ → ℕ → ℕ
own_in U v = pick (eqb (get_or U v 0) 0) v 0

abbrev pub own_of : Chart → Access → Access
own_of C x = record {
  subject = own_in C.subjects x.subject;
  mode = x.mode;
  object = own_in C.objects x.object;
}

-- ---- the outline of the rules

-- the rules by coordinates, whatever is asked; owners and administrators are those of `holder`
pub record RulesDrawn (holder : Base) (n : ℕ) (C : Chart) (body left feed sides right : List ℕ) (choosy : ℕ) :
    Type 0
  where
    pub well_formed : WellFormed n body
    pub charted : Charted n body C
    pub rights : RightSides C.subjects C.objects n body right
    pub behind : (k : ℕ) → n ≤ k / 4 → get_or right k 0 ≡ 0
    pub lefts : LeftSides C.subjects C.objects n body sides
    pub masks : Masked holder n C body sides left
    pub fed : FeedTable n body choosy feed
    pub choosy_is : choosy ≡ mask_of is_choosy (rules_in n body)

-- a table as it is made
abbrev pub Blank : List ℕ → Type 0
Blank table = (i : ℕ) → get_or table i 0 ≡ 0

-- the tables of coordinates, with their sizes
abbrev pub chart_for : List ℕ → List ℕ → Extent → Chart
chart_for subjects objects e = record {
  subjects = subjects;
  objects = objects;
  width = e.subjects;
  height = e.objects;
}

-- the same with the masks of the asked access
pub record Outline (holder : Base) (n : ℕ) (C : Chart) (x : Access) (body left feed sides right : List ℕ)
    (choosy : ℕ) : Type 0
  where
    pub outlined : List ℕ
    pub rules : RulesDrawn holder n C body outlined feed sides right choosy
    pub owned : Owned holder n body (own_of C x) outlined left

-- ---- the places

-- what is needed, and the numbers of its pairs
pub record Mapped (C : Chart) (left right need number codes : List ℕ) (g : Grid) : Type 0 where
  pub closed : ClosedNet (record { left = left; right = right; subjects = C.width }) need
  pub size : length need ≡ C.height * C.width
  -- at no other pairs than the asked one and those that rules lead to
  pub only : (pair : ℕ) × (pair < length need)
      × Only (record { left = left; right = right; subjects = C.width }) pair need
  pub numbers : (length number ≡ length need)
      × ((j : ℕ) → j < length need → get_or number j 0 ≡ used_before need j)
  pub codes_are : (length codes ≡ length need)
      × ((j : ℕ) → j < length need → used (get_or need j 0) ≡ true →
      get_or codes (used_before need j) 0 ≡ code_of C.width j)
  pub grid : (g.subjects ≡ C.width) × (g.objects ≡ C.height) × (g.pairs ≡ used_before need (length need))
  pub modes : (g.modes < 256) × ((j k : ℕ) → j < length need → k < 8 →
      either_at (get_or need j 0) k ≡ true → bit k g.modes ≡ true)

-- ---- the tables

-- tables of fields are laid out, those of choosy rules behind the first two, and tables of broken bits
pub record Arranged (n : ℕ) (body sides right first starts : List ℕ) (choosy rules lasts total : ℕ) (f :
    Frame) :
    Type 0 where
  pub chosen : f.choosy ≡ bit_and choosy rules
  pub arranged : TablesArranged body right f.choosy f.grid first
      (record { tables = f.tables; wide = f.wide; fields = f.fields })
  pub lasts_is : (r : ℕ) → bit r lasts ≡ bit r rules && lasting (rule_at body r).operator
  pub total_is : total ≡ room_of f.grid sides lasts 64
  pub starts_laid : TablesLaid (rule_tables f.grid sides lasts starts) 0 total

-- the frame with fields of another width
abbrev pub sized : Frame → ℕ → Frame
sized f k =
    record {
      grid = f.grid;
      width = k;
      fields = f.fields;
      choosy = f.choosy;
      tables = f.tables;
      wide = f.wide;
    }
