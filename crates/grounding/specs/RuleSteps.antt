-- The steps of a rule's turn: at each place where it stands, what it derives is given to the tables
-- (`Step`). A turn is a row of steps (`Steps`), one at each of these places (`Visited`). What that means is
-- no matter here.
use Rattle.std.specs.Prelude.{◌≡◌, Bool, true, not, ◌&&◌, ◌||◌, List, ℕ, ◌+◌, ◌*◌, ◌^◌, ◌≤◌, ◌<◌, eqb, ltb, length, get_or}
use Rattle.foundation.specs.Tests.{pick}
use Rattle.foundation.specs.BitMasks.{as_bit, bit}
use Rattle.words.specs.Bits.{less}
use Rattle.words.specs.Fields.{field_of, joined}
use Rattle.reach.specs.Net.{turned}
use Rattle.places.specs.declared.Grid.{Grid}
use Rattle.places.specs.declared.Region.{Region}
use Rattle.places.specs.declared.Point.{Point}
use Rattle.places.specs.ReachedNumbers.{pair_index, code_object, code_subject}
use Rattle.places.specs.Needs.{both_at}
use Rattle.places.specs.Regions.{free, size_of, index_in, Within}
use Rattle.tables.specs.declared.Frame.{Frame}
use Rattle.tables.specs.declared.Place.{Place}
use Rattle.tables.specs.TableLayout.{whole_region}
use Rattle.tables.specs.TableGiving.{tables_of, Reaches, table_takes, TablesGiven}
use Rattle.model.specs.Stratification.{lasting}
use Rattle.derivation.specs.Derive.{Derived}
use Rattle.grounding.specs.declared.RuleTurn.{RuleTurn}

-- ---- the place on the right

abbrev pub turned_point : Region → Point → Point
turned_point b x = record {
  subject = turned b.subject x.subject;
  mode = turned b.mode x.mode;
  object = turned b.object x.object;
}

-- where the pair of a place lies
abbrev pub pair_in : Grid → Point → ℕ
pair_in g x = pair_index g.subjects x.object x.subject

abbrev pub right_place : RuleTurn → Grid → List ℕ → Point → Place
right_place t g number x =
    let y = turned_point t.right x in
    record { pair = get_or number (pair_in g y) 0; point = y }

-- ---- what is read

-- when the right side counts as held, y being its place: a positive one is looked up in two tables, its own
-- and that of all denials
abbrev pub force_at : RuleTurn → Frame → List ℕ → Place → ℕ
force_at t f words y =
    let field : ℕ → Region → ℕ = λ from b.
    field_of f.width words (from + index_in f.grid b y.pair y.point) in
    let held = field t.first t.table in
    pick t.denied held (less held (field (size_of f.grid whole_region) whole_region))

-- the same, seen from the place on the left
abbrev pub force_in : RuleTurn → Frame → List ℕ → List ℕ → Point → ℕ
force_in t f number words x = force_at t f words (right_place t f.grid number x)

-- where its broken bit is
abbrev pub broken_at : RuleTurn → Grid → Place → ℕ
broken_at t g p = t.bits + index_in g t.left p.pair p.point

-- it looks back and is broken
abbrev pub broken_in : RuleTurn → Grid → List ℕ → Place → Bool
broken_in t g bits p = lasting t.operator && eqb (field_of 0 bits (broken_at t g p)) 1

-- a place at which a rule can be broken: `bits` is how many words of bits are kept for rules that look back
pub record Ordinary (t : RuleTurn) (g : Grid) (bits : ℕ) (p : Place) : Type 0 where
  pub within : Within g p.pair p.point
  pub low : p.point.mode < 32
  pub size : size_of g t.left < 4294967296
  pub room : lasting t.operator ≡ true → t.bits + size_of g t.left ≤ 64 * bits
  pub number : lasting t.operator ≡ true → t.bits + size_of g t.left < 4294967296

-- what a step reads is there; `words` and `bits` are the lengths of the tables
pub record StepReads (t : RuleTurn) (f : Frame) (number : List ℕ) (words bits : ℕ) (p : Place) : Type 0 where
  pub here : Ordinary t f.grid bits p
  pub sign : t.sign < 2
  pub active : t.active < 9223372036854775808
  pub fits : t.active < 2 ^ (2 ^ f.width)
  pub takers : (c : ℕ) → bit c t.takers ≡ true → bit c f.tables ≡ true
  pub pair : pair_in f.grid (turned_point t.right p.point) < length number
  pub few : length number ≤ 4225
  pub looked : Reaches f t.first t.table (right_place t f.grid number p.point) words
  pub denials : Reaches f (size_of f.grid whole_region) whole_region
      (right_place t f.grid number p.point) words

-- ---- steps

module _ (t : RuleTurn) (f : Frame) (number : List ℕ) where
  -- what the rule derives at a place is given to the tables
  pub record Step (bits right first : List ℕ) (p : Place) (old new : List ℕ) : Type 0 where
    pub value : ℕ
    pub derived : Derived t.operator (force_in t f number old p.point) t.active
        (broken_in t f.grid bits p) value
    pub given : TablesGiven (tables_of f right first) f.width p.pair p.point
        (table_takes t.sign t.takers)
        value
        old new

  -- the rule is marked as broken at a place, if it derives nothing there at the last instant
  pub record Mark (words : List ℕ) (last : ℕ) (p : Place) (old new : List ℕ) : Type 0 where
    pub value : ℕ
    pub derived : Derived t.operator (force_in t f number words p.point) t.active
        (broken_in t f.grid old p) value
    pub marked : (j : ℕ) → field_of 0 new j
        ≡ joined 0 old (broken_at t f.grid p) (as_bit (not (bit last value))) j
    pub lengths : length new ≡ length old

-- ---- rows of steps

module _ (Does : Place → List ℕ → List ℕ → Type 0) (At : Place → Type 0) where
  -- steps at places of some kind
  pub data Steps : List ℕ → List ℕ → Type 0 where
    none : {w : List ℕ} → Steps w w
    then : {u v w : List ℕ} (p : Place) → At p → Does p u v → Steps v w → Steps u w

  -- among which is one at a place
  pub record Visited (p : Place) (old new : List ℕ) : Type 0 where
    pub before : List ℕ
    pub after : List ℕ
    pub to : Steps old before
    pub step : Does p before after
    pub from : Steps after new

-- ---- the places of a pair

-- the mode is needed, with both signs, and the rule has it
abbrev pub modes_at : RuleTurn → ℕ → ℕ → Bool
modes_at t need m = ltb m 8 && both_at need m && (free t.left.mode || eqb t.left.mode m)

-- the place of a pair with a mode
abbrev pub with_mode : Place → ℕ → Place
with_mode p m = record {
  pair = p.pair;
  point = record { subject = p.point.subject; mode = m; object = p.point.object };
}

-- the modes of a mask can be read at a pair
abbrev pub ModesReady : RuleTurn → Frame → List ℕ → ℕ → ℕ → Place → ℕ → Type 0
ModesReady t f number words bits p modes =
    (m : ℕ) → m < 64 → bit m modes ≡ true → StepReads t f number words bits (with_mode p m)

abbrev pub AtMode : Place → ℕ → Place → Type 0
AtMode p modes q = (m : ℕ) × (m < 64) × (bit m modes ≡ true) × (q ≡ with_mode p m)

-- a step for each mode of a mask
pub record ModesRan (Does : Place → List ℕ → List ℕ → Type 0) (p : Place) (modes : ℕ) (old new : List ℕ) :
    Type 0 where
  pub steps : Steps Does (AtMode p modes) old new
  pub all : (m : ℕ) → m < 64 → bit m modes ≡ true → Visited Does (AtMode p modes) (with_mode p m) old new

-- ---- the pairs of a range

module _ (t : RuleTurn) (f : Frame) (left need codes : List ℕ) where
  -- object and subject of the pair with number n
  abbrev pub object_at : ℕ → ℕ
  object_at n = code_object (get_or codes n 0)

  abbrev pub subject_at : ℕ → ℕ
  subject_at n = code_subject (get_or codes n 0)

  -- the rule stands at the pair with number n, with mode m
  pub record StandsAt (n m : ℕ) : Type 0 where
    pub object : bit t.rule (get_or left (object_at n) 0) ≡ true
    pub subject : bit t.rule (get_or left (65 + subject_at n) 0) ≡ true
    pub mode : modes_at t (get_or need (pair_index f.grid.subjects (object_at n) (subject_at n)) 0) m ≡ true

  abbrev pub place_at : ℕ → ℕ → Place
  place_at n m = record { pair = n; point = record { subject = subject_at n; mode = m; object = object_at n } }

  pub record PairsReady (number : List ℕ) (words bits from to : ℕ) : Type 0 where
    pub rule : t.rule < 64
    pub sign : t.sign < 2
    pub listed : to ≤ length codes
    pub low : (n : ℕ) → n < to → (object_at n < 65) × (subject_at n < 65)
        × (pair_index f.grid.subjects (object_at n) (subject_at n) < length need)
    pub reads : (n m : ℕ) → from ≤ n → n < to → StandsAt n m → StepReads t f number words bits (place_at n m)

  abbrev pub AtPair : ℕ → ℕ → Place → Type 0
  AtPair from to q = (n : ℕ) × (m : ℕ) × (from ≤ n) × (n < to) × StandsAt n m × (q ≡ place_at n m)

  -- a step for each place of the range at which the rule stands
  pub record PairsRan (Does : Place → List ℕ → List ℕ → Type 0) (from to : ℕ) (old new : List ℕ) : Type 0
    where
      pub steps : Steps Does (AtPair from to) old new
      pub all : (n m : ℕ) → from ≤ n → n < to → StandsAt n m → Visited Does (AtPair from to) (place_at n m) old
          new
