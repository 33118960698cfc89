-- The authorizations given to the tables over a window: each at its place, in the tables of its sign and of
-- the rules that take it (`LineStep`), one behind the other (`LineSteps`). What that means is no matter here.
use Rattle.std.specs.Prelude.{◌≡◌, Bool, ◌&&◌, List, [], ◌∷◌, ℕ, zero, suc, ◌-◌, ◌^◌, ◌≤◌, ◌<◌, eqb, length, get_or}
use Rattle.std.specs.Bool.{beq}
use Rattle.std.specs.Int.Bits.{bit_and}
use Rattle.foundation.specs.BitMasks.{as_bit, bit, mask_of}
use Rattle.model.specs.declared.Access.{Access}
use Rattle.model.specs.declared.Authorization.{Authorization}
use Rattle.model.specs.declared.Head.{Head}
use Rattle.model.specs.declared.Rule.{Rule}
use Rattle.model.specs.Stratification.{fits_option}
use Rattle.model.specs.Rules.{fits_grantor}
use Rattle.encoding.specs.Format.{rules_in, rule_at}
use Rattle.windows.specs.Windows.{Rising, inside}
use Rattle.places.specs.declared.Grid.{Grid}
use Rattle.places.specs.ReachedNumbers.{pair_index}
use Rattle.places.specs.Regions.{Within}
use Rattle.masks.specs.RuleMasks.{RulesIn}
use Rattle.sections.specs.Sections.{first_of, rights_of, subjects_of, objects_of}
use Rattle.tables.specs.declared.Frame.{Frame}
use Rattle.tables.specs.declared.Place.{Place}
use Rattle.facts.specs.declared.WindowTask.{WindowTask}
use Rattle.tables.specs.TableGiving.{tables_of, TablesReady, TablesGiven}
use Rattle.relevance.specs.Chosen.{authorization_at, Picks}
use Rattle.relevance.specs.Needed.{cell_of, HeadInRange}

-- ---- which rules take an authorization

-- sign, grantor and option of the right side fit it
abbrev pub fits_kind : Head → Rule → Bool
fits_kind h r =
    beq h.negative r.right.negative
    && fits_grantor r.grantor h.grantor
    && fits_option r.option h.option

-- of the rule with that number
abbrev pub fits_rule : List ℕ → Head → ℕ → Bool
fits_rule body h c = fits_kind h (rule_at body c)

-- those of a mask, as a mask
unfoldable pub takers_in : List ℕ → ℕ → Head → ℕ
takers_in body rules h = bit_and rules (mask_of (fits_kind h) (rules_in 64 body))

-- the table of its sign takes it, and those of the rules of a mask that it fits
abbrev pub taken_by : List ℕ → ℕ → Head → ℕ → Bool
taken_by body rules h zero = eqb 0 (as_bit h.negative)
taken_by body rules h (suc zero) = eqb 1 (as_bit h.negative)
taken_by body rules h (suc (suc c)) = bit c rules && fits_rule body h c

-- ---- its place

-- what authorizations are given by: the rules, the access asked about, coordinates and the numbers of pairs;
-- the window; and the tables
pub record Setting : Type 0 where
  pub body : List ℕ
  pub asked : Access
  pub subjects : List ℕ
  pub objects : List ℕ
  pub number : List ℕ
  pub marks : List ℕ
  pub count : ℕ
  pub frame : Frame
  pub right : List ℕ
  pub first : List ℕ

abbrev pub setting : List ℕ → Access → List ℕ → List ℕ → List ℕ → List ℕ → ℕ → Frame → List ℕ → List ℕ →
    Setting
setting body asked subjects objects number marks count frame right first = record {
  body = body;
  asked = asked;
  subjects = subjects;
  objects = objects;
  number = number;
  marks = marks;
  count = count;
  frame = frame;
  right = right;
  first = first;
}

-- that of a window, by the slices that hold the tables
abbrev pub setting_in : (body : List ℕ) → WindowTask → (outline coordinates number marks : List ℕ) → Setting
setting_in body w outline coordinates number marks =
    setting body w.own (subjects_of coordinates) (objects_of coordinates) number marks w.count w.frame
    (rights_of coordinates) (first_of outline)

module _ (subjects objects : List ℕ) (x : Access) (g : Grid) where
  -- where the pair lies that an authorization is about
  abbrev pub pair_for : Head → ℕ
  pair_for h =
      pair_index g.subjects (cell_of subjects objects x h).object (cell_of subjects objects x h).subject

  abbrev pub place_for : List ℕ → Head → Place
  place_for number h = record {
    pair = get_or number (pair_for h) 0;
    point = record {
      subject = (cell_of subjects objects x h).subject;
      mode = h.mode - 1;
      object = (cell_of subjects objects x h).object;
    };
  }

module _ (e : Setting) where
  abbrev pub place_in : Head → Place
  place_in = place_for e.subjects e.objects e.asked e.frame.grid e.number

  -- the tables and the window can be used; `words` is the length of the tables
  pub record Usable (words : ℕ) : Type 0 where
    pub ready : TablesReady e.frame e.right e.first words
    pub rules : RulesIn e.frame.tables e.body
    pub few : length e.number ≤ 4225
    pub short : e.count ≤ 63
    pub rising : Rising e.count e.marks
    pub fits : e.count ≤ 2 ^ e.frame.width

  -- an authorization has a place
  pub record HasPlace (h : Head) : Type 0 where
    pub placed : HeadInRange h
    pub pair : pair_for e.subjects e.objects e.asked e.frame.grid h < length e.number
    pub within : Within e.frame.grid (place_in h).pair (place_in h).point

  -- all that is needed to give n authorizations
  pub record LinesReady (lines which : List ℕ) (n words : ℕ) : Type 0 where
    pub picks : Picks lines which n
    pub usable : Usable words
    pub places : (j : ℕ) → j < n → HasPlace (authorization_at lines (get_or which j 0)).head

  -- ---- steps

  -- the instants of an authorization are given to the tables
  pub record LineStep (a : Authorization) (old new : List ℕ) : Type 0 where
    pub value : ℕ
    pub instants : (j : ℕ) → bit j value ≡ inside e.count e.marks a.interval j
    pub given : TablesGiven (tables_of e.frame e.right e.first) e.frame.width
        (place_in a.head).pair
        (place_in a.head).point (taken_by e.body e.frame.tables a.head) value old new

  -- those of a list, one after the other
  pub data LineSteps : List Authorization → List ℕ → List ℕ → Type 0 where
    none : {w : List ℕ} → LineSteps [] w w
    then : {a : Authorization} {rest : List Authorization} {u v w : List ℕ} → LineStep a u v →
        LineSteps rest v w → LineSteps (a ∷ rest) u w
