-- What the steps of a turn mean. A mapping says which access a place stands for, and which pattern a table
-- has of it (`pat`); the words of a mapping are the fields of the tables (`words_in`).
use Rattle.std.specs.Prelude.{◌≡◌, Bool, true, false, List, ℕ, zero, suc, ◌<◌, get_or}
use Rattle.foundation.specs.Lists.{Mem}
use Rattle.foundation.specs.Intervals.{in_interval}
use Rattle.foundation.specs.BitMasks.{bit}
use Rattle.words.specs.Fields.{field_of}
use Rattle.places.specs.declared.Point.{Point}
use Rattle.tables.specs.declared.Frame.{Frame}
use Rattle.tables.specs.declared.Place.{Place}
use Rattle.tables.specs.TableLayout.{field_in, Paired, Has}
use Rattle.tables.specs.TableGiving.{tables_of, table_takes}
use Rattle.model.specs.declared.Rule.{Rule}
use Rattle.model.specs.declared.Access.{Access}
use Rattle.model.specs.declared.Pattern.{Pattern}
use Rattle.model.specs.Base.{Base}
use Rattle.model.specs.Rules.{stands_for, derives_for, right_of, asked}
use Rattle.derivation.specs.Words.{AccessWords}
use Rattle.grounding.specs.declared.RuleTurn.{RuleTurn}
use Rattle.grounding.specs.RuleSteps.{turned_point, pair_in}

-- ---- patterns

-- tables 0 and 1 have what is held and what is denied, table 2 + c what fits the right side of rule c
abbrev pub pat : (ℕ → Rule) → ℕ → Access → Pattern
pat rule zero x = asked x false
pat rule (suc zero) x = asked x true
pat rule (suc (suc c)) x = record {
  access = x;
  negative = (rule c).right.negative;
  grantor = (rule c).grantor;
  option = (rule c).option;
}

-- ---- the mapping

-- The base, its rules by number, the accesses that matter and their places; and the tables
pub record Mapping : Type 0 where
  pub base : Base
  pub rule : ℕ → Rule
  pub matters : Access → Bool
  pub point : Access → Point
  pub number : List ℕ
  pub frame : Frame
  pub right : List ℕ
  pub first : List ℕ

module _ (z : Mapping) where
  abbrev pub place_of : Access → Place
  place_of x = record { pair = get_or z.number (pair_in z.frame.grid (z.point x)) 0; point = z.point x }

  abbrev pub Kept : ℕ → Access → Type 0
  Kept T x = (z.matters x ≡ true)
      × Has (tables_of z.frame z.right z.first) T (place_of x).pair (z.point x)

  -- the word of an access in a table
  abbrev pub words_in : List ℕ → AccessWords
  words_in words T x = field_of z.frame.width words
      (field_in (tables_of z.frame z.right z.first) T (place_of x).pair (z.point x))

  -- different accesses have different places, and pairs of one number are one pair
  pub record Placed : Type 0 where
    pub apart : (x y : Access) → z.matters x ≡ true → z.matters y ≡ true →
        (z.point x).subject ≡ (z.point y).subject → (z.point x).object ≡ (z.point y).object →
        (z.point x).mode ≡ (z.point y).mode → x ≡ y
    pub paired : (x y : Access) → z.matters x ≡ true → z.matters y ≡ true →
        Paired (place_of x).pair (z.point x) (place_of y).pair (z.point y)

  -- ---- the turn of a rule

  -- t is the turn of rule r over a window
  pub record TurnOf (count : ℕ) (ms : ℕ → ℕ) (r : Rule) (t : RuleTurn) : Type 0 where
    pub mem : Mem r z.base.rules
    pub operator : t.operator ≡ r.operator
    pub acts : (i : ℕ) → i < count → bit i t.active ≡ in_interval r.interval (ms i)
    pub inside : (i : ℕ) → bit i t.active ≡ true → i < count
    pub denied : t.denied ≡ r.right.negative
    -- the table that it looks at
    pub looked : ℕ
    pub offset : t.first ≡ (tables_of z.frame z.right z.first).offset looked
    pub region : t.table ≡ (tables_of z.frame z.right z.first).region looked
    pub side : (x : Access) → z.matters x ≡ true → stands_for z.base r x ≡ true →
        Kept looked (right_of r x).access
    pub point : (x : Access) → z.matters x ≡ true → stands_for z.base r x ≡ true →
        z.point (right_of r x).access ≡ turned_point t.right (z.point x)
    pub pattern : (x : Access) → pat z.rule looked (right_of r x).access ≡ right_of r x
    -- and those that it gives to
    pub gives : (x : Access) → z.matters x ≡ true → stands_for z.base r x ≡ true → (T : ℕ) → Kept T x →
        table_takes t.sign t.takers T ≡ derives_for z.base (pat z.rule T x) r

  -- a place at which the rule stands
  pub record StandsIn (r : Rule) (p : Place) : Type 0 where
    pub access : Access
    pub matters : z.matters access ≡ true
    pub stands : stands_for z.base r access ≡ true
    pub place : p ≡ place_of access
