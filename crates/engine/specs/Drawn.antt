-- The tables of a question as they were drawn (`Drawn`), and the mapping that they stand for (`mapping_of`).
use Rattle.std.specs.Prelude.{◌≡◌, true, ◌&&◌, List, ℕ, ◌*◌, ◌≤◌, ◌<◌, length, get_or}
use Rattle.foundation.specs.BitMasks.{bit}
use Rattle.model.specs.declared.Access.{Access}
use Rattle.model.specs.Base.{Base, controls}
use Rattle.encoding.specs.Format.{rule_at}
use Rattle.model.specs.Stratification.{lasting}
use Rattle.reach.specs.Net.{ClosedNet}
use Rattle.places.specs.ReachedNumbers.{used, used_before, code_of}
use Rattle.places.specs.Needs.{either_at}
use Rattle.tables.specs.TableLayout.{TablesLaid, rule_tables}
use Rattle.tables.specs.TableGiving.{shapes_of, TablesReady}
use Rattle.masks.specs.RuleMasks.{Needed}
use Rattle.outlines.specs.Coordinates.{WellFormed, Chart, Charted, subject_of, object_of, mode_of}
use Rattle.outlines.specs.Outline.{RightSides, LeftSides}
use Rattle.outlines.specs.LeftMasks.{Masked, Owned}
use Rattle.outlines.specs.Feed.{is_choosy, FeedTable}
use Rattle.outlines.specs.NeededAccesses.{needed}
use Rattle.facts.specs.Sharing.{TablesShared}
use Rattle.grounding.specs.RuleTurns.{Prepared}
use Rattle.grounding.specs.Meaning.{Mapping}

-- every coordinate of a table is that of some number, and the star has none
pub record Onto (U : List ℕ) (size : ℕ) : Type 0 where
  pub all : (c : ℕ) → 0 < c → c < size → (v : ℕ) × (get_or U v 0 ≡ c)
  pub star : get_or U 0 0 ≡ 0

-- two bases have the same owners and administrators: the same rules stand for an access in both
abbrev pub SamePowers : Base → Base → Type 0
SamePowers b c = (o u : ℕ) → controls b o u ≡ controls c o u

-- what was drawn for n rules: `asked` is the asked access, with subject or object 0, which nobody has, where
-- it is listed; `rules` are those that matter; `words` and `bits` are the lengths of the tables. Owners and
-- administrators were asked of `holder`.
pub record Drawn (holder : Base) (n : ℕ) (C : Chart) (asked : Access) (p : Prepared) (rules words bits : ℕ) :
    Type 0
  where
    pub well_formed : WellFormed n p.body
    pub charted : Charted n p.body C
    pub subjects : Onto C.subjects C.width
    pub objects : Onto C.objects C.height
    pub unlisted : (get_or C.subjects asked.subject 0 ≡ 0) × (get_or C.objects asked.object 0 ≡ 0)
    pub rights : RightSides C.subjects C.objects n p.body p.right
    pub lefts : LeftSides C.subjects C.objects n p.body p.sides
    -- the masks, before those of the asked access were drawn, and with them
    pub outlined : List ℕ
    pub masks : Masked holder n C p.body p.sides outlined
    pub own : Owned holder n p.body asked outlined p.left
    pub feed : (choosy : ℕ) × FeedTable n p.body choosy p.feed
        × ((c : ℕ) → c < n → bit c choosy ≡ is_choosy (rule_at p.body c))
    -- what is needed
    pub closed : ClosedNet (record { left = p.left; right = p.right; subjects = C.width }) p.need
    pub size : length p.need ≡ C.height * C.width
    -- numbers of pairs and modes
    pub numbers : (length p.number ≡ length p.need)
        × ((j : ℕ) → j < length p.need → get_or p.number j 0 ≡ used_before p.need j)
    pub codes : (length p.codes ≡ length p.need)
        × ((j : ℕ) → j < length p.need → used (get_or p.need j 0) ≡ true →
        get_or p.codes (used_before p.need j) 0 ≡ code_of C.width j)
    pub grid : (p.frame.grid.subjects ≡ C.width) × (p.frame.grid.objects ≡ C.height)
        × (p.frame.grid.pairs ≡ used_before p.need (length p.need))
    pub modes : (p.frame.grid.modes < 256) × ((j k : ℕ) → j < length p.need → k < 8 →
        either_at (get_or p.need j 0) k ≡ true → bit k p.frame.grid.modes ≡ true)
    pub needs : Needed p.left p.need p.codes C.width p.frame.grid.pairs rules
    -- the tables of fields and of broken bits
    pub choosy : (c : ℕ) → bit c p.frame.choosy ≡ bit c rules && is_choosy (rule_at p.body c)
    pub tabled : (c : ℕ) → bit c p.frame.tables ≡ true → bit c p.frame.choosy ≡ true
    pub shared : TablesShared p.body (shapes_of p.frame p.right) p.first p.frame.choosy
        p.frame.tables
    pub laid : TablesReady p.frame p.right p.first words
    pub fields : p.frame.fields < 4294967296
    pub lasts : ℕ
    pub lasts_is : (r : ℕ) → bit r lasts ≡ bit r rules && lasting (rule_at p.body r).operator
    pub total : ℕ
    pub starts : TablesLaid (rule_tables p.frame.grid p.sides lasts p.starts) 0 total
    pub room : (total ≤ 64 * bits) × (total < 4294967296)

-- the mapping, for a base
abbrev pub mapping_of : Base → Chart → Access → Prepared → Mapping
mapping_of base C asked p = record {
  base = base;
  rule = rule_at p.body;
  matters = needed C asked p.need;
  point = λ x. record { subject = subject_of C asked x; mode = mode_of x; object = object_of C asked x };
  number = p.number;
  frame = p.frame;
  right = p.right;
  first = p.first;
}
