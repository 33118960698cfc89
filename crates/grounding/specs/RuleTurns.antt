-- The turns of rules: the order in which rules are evaluated over a window. What that means is no matter
-- here.
use Rattle.std.specs.Prelude.{◌≡◌, ◌⊎◌, Bool, true, false, List, ℕ, suc, ◌+◌, ◌*◌, ◌/◌, ◌%◌, ◌^◌, ◌≤◌, ◌<◌, eqb, ltb, length, get_or}
use Rattle.std.specs.Int.Bits.{bit_and}
use Rattle.foundation.specs.Tests.{pick}
use Rattle.foundation.specs.BitMasks.{bit}
use Rattle.model.specs.declared.Head.{Head}
use Rattle.model.specs.declared.Rule.{Rule}
use Rattle.encoding.specs.Format.{rule_at}
use Rattle.words.specs.Sums.{SumGrown}
use Rattle.sections.specs.Sections.{left_of, feed_of, first_of, starts_of, sides_of, rights_of, numbered_of}
use Rattle.sections.specs.Sections.{listed_of, fields_of, broken_of}
use Rattle.places.specs.declared.Grid.{Grid}
use Rattle.places.specs.declared.Region.{Region}
use Rattle.places.specs.ReachedNumbers.{row_index, pair_index}
use Rattle.places.specs.Regions.{free, size_of}
use Rattle.tables.specs.declared.Frame.{Frame}
use Rattle.tables.specs.TableLayout.{region_at, whole_region}
use Rattle.tables.specs.TableGiving.{shapes_of, TablesReady}
use Rattle.masks.specs.RuleMasks.{RulesIn}
use Rattle.facts.specs.Facts.{takers_in}
use Rattle.grounding.specs.declared.RuleTurn.{RuleTurn}
use Rattle.grounding.specs.declared.Range.{Range}
use Rattle.grounding.specs.RuleSteps.{Step, Mark, PairsReady, PairsRan}

-- the number of the pair that lies at j; behind the last one how many there are
abbrev pub pair_number_at : List ℕ → ℕ → ℕ → ℕ
pair_number_at number j pairs = pick (ltb j (length number)) (get_or number j 0) pairs

-- the numbers of the pairs of a region, and maybe others
abbrev pub range_of : Region → Grid → List ℕ → Range
range_of b g number =
    let row = row_index g.subjects b.object in
    let at = pair_index g.subjects b.object b.subject in
    pick (free b.object)
    (record { from = 0; to = g.pairs })
    (pick (free b.subject)
    (record {
      from = pair_number_at number row g.pairs;
      to = pair_number_at number (row + g.subjects) g.pairs;
    })
    (record {
      from = pair_number_at number at g.pairs;
      to = pair_number_at number (at + 1) g.pairs;
    }))

-- how many words hold fields of 2^k bits
abbrev pub words_for : ℕ → ℕ → ℕ
words_for fields k = (fields * 2 ^ k + 63) / 64

-- what a rule derives, as an authorization: its author gives it, without the option
abbrev pub derived_head : Rule → Head
derived_head q = record {
  label = 0;
  grantor = q.author;
  subject = 0;
  object = 0;
  mode = 0;
  negative = q.left.negative;
  option = false;
  granted = 0;
}

-- the rules whose tables take what rule q derives, `fed` being those that it feeds
abbrev pub takers_for : Frame → List ℕ → Rule → ℕ → ℕ
takers_for f body q fed = pick f.wide (takers_in body f.tables (derived_head q)) (bit_and fed f.tables)

-- the turn of rule r, `active` having the instants of each rule's interval
abbrev pub turn_from : Frame → List ℕ → List ℕ → List ℕ → List ℕ → List ℕ → List ℕ → List ℕ → ℕ → RuleTurn
turn_from f body feed sides right first starts active r =
    let own = bit r f.choosy in
    let denied = eqb (get_or sides (4 * r + 3) 0 / 2) 1 in
    record {
      rule = r;
      operator = (rule_at body r).operator;
      active = get_or active r 0;
      right = region_at right r;
      denied = denied;
      first = pick own (get_or first r 0) (pick denied (size_of f.grid whole_region) 0);
      table = pick own (region_at (shapes_of f right) r) whole_region;
      left = region_at sides r;
      sign = get_or sides (4 * r + 3) 0 % 2;
      bits = get_or starts r 0;
      takers = takers_for f body (rule_at body r) (get_or feed (64 + r) 0);
      words = words_for f.fields f.width;
    }

-- the tables of a question
pub record Prepared : Type 0 where
  pub body : List ℕ
  pub left : List ℕ
  pub feed : List ℕ
  pub sides : List ℕ
  pub right : List ℕ
  pub need : List ℕ
  pub codes : List ℕ
  pub number : List ℕ
  pub first : List ℕ
  pub starts : List ℕ
  pub frame : Frame

abbrev pub prepared : (body left feed sides right need codes number first starts : List ℕ) → Frame → Prepared
prepared body left feed sides right need codes number first starts f = record {
  body = body;
  left = left;
  feed = feed;
  sides = sides;
  right = right;
  need = need;
  codes = codes;
  number = number;
  first = first;
  starts = starts;
  frame = f;
}

-- the same by the slices that hold them
abbrev pub prepared_in : (body outline coordinates need numbers : List ℕ) → Frame → Prepared
prepared_in body outline coordinates need numbers =
    prepared body (left_of outline) (feed_of outline) (sides_of coordinates) (rights_of coordinates) need
    (listed_of (length need) numbers) (numbered_of (length need) numbers) (first_of outline) (starts_of outline)

-- which have room for all of it; `words` of the words that are worked in have fields
pub record Sliced (outline coordinates need numbers work : List ℕ) (words : ℕ) : Type 0 where
  pub outlined : length outline ≡ 536
  pub placed : length coordinates ≡ 1666
  pub numbered : 2 * length need ≤ length numbers
  pub roomy : words ≤ length work

-- fields and broken bits of a frame, in the words that are worked in
abbrev pub fields_in : Frame → List ℕ → List ℕ
fields_in f = fields_of (words_for f.fields f.width)

abbrev pub bits_in : Frame → List ℕ → List ℕ
bits_in f = broken_of (words_for f.fields f.width)

abbrev pub SlicedIn : (outline coordinates need numbers : List ℕ) → Frame → List ℕ → Type 0
SlicedIn outline coordinates need numbers f work =
    Sliced outline coordinates need numbers work (words_for f.fields f.width)

module _ (p : Prepared) where
  module _ (active : List ℕ) where
    abbrev pub turn_in : ℕ → RuleTurn
    turn_in = turn_from p.frame p.body p.feed p.sides p.right p.first p.starts active

    abbrev pub range_for : ℕ → Range
    range_for r = range_of (region_at p.sides r) p.frame.grid p.number

    -- rule r can have its turn; `words` and `bits` are the lengths of the tables
    pub record Able (words bits r : ℕ) : Type 0 where
      pub low : r < 64
      pub there : 28 * r + 28 ≤ length p.body
      pub signs : get_or p.sides (4 * r + 3) 0 < 4
      pub size : size_of p.frame.grid whole_region < 4294967296
      pub ready : TablesReady p.frame p.right p.first words
      pub rules : RulesIn p.frame.tables p.body
      pub start : bit r p.frame.choosy ≡ true → get_or p.first r 0 < 4294967296
      pub pairs : PairsReady (turn_in r) p.frame p.left p.need p.codes p.number words bits
          (range_for r).from (range_for r).to

    module _ (bits : List ℕ) where
      -- rule r had its turn; one that is not active gives nothing
      abbrev pub RuleRan : ℕ → List ℕ → List ℕ → Type 0
      RuleRan r old new =
          ((get_or active r 0 ≡ 0) × (new ≡ old))
          ⊎ PairsRan (turn_in r) p.frame p.left p.need p.codes
          (Step (turn_in r) p.frame p.number bits p.right p.first)
          (range_for r).from (range_for r).to old new

      -- each rule of `rest` in its turn, behind those of `rest` that precede it
      pub data Turns : ℕ → List ℕ → ℕ → List ℕ → Type 0 where
        none : {rest : ℕ} {w : List ℕ} → Turns rest w rest w
        then : {rest rest' left : ℕ} {u v w : List ℕ} (r : ℕ) → bit r rest ≡ true →
            ((q : ℕ) → q < 64 → bit q (get_or p.feed r 0) ≡ true → bit q rest ≡ true → ⊥) →
            ((q : ℕ) → bit q rest ≡ true → (q ≡ r → ⊥) → bit q rest' ≡ true) →
            ((q : ℕ) → bit q rest' ≡ true → bit q rest ≡ true) →
            RuleRan r u v → Turns rest' v left w → Turns rest u left w

      -- the rules of a set, each again as long as something is new that it may look at
      pub data Rounds (rules : ℕ) : ℕ → List ℕ → List ℕ → Type 0 where
        none : {dirty : ℕ} {w : List ℕ} → ((q : ℕ) → q < 64 → bit q dirty ≡ true → ⊥) → Rounds rules dirty w w
        then : {dirty dirty' : ℕ} {u v w : List ℕ} (r : ℕ) (fresh : Bool) → bit r dirty ≡ true →
            bit r rules ≡ true → RuleRan r u v → SumGrown fresh u v →
            ((q : ℕ) → bit q dirty ≡ true → (q ≡ r → ⊥) → bit q dirty' ≡ true) →
            (fresh ≡ true → (q : ℕ) → q < 64 → bit q rules ≡ true → bit r (get_or p.feed q 0) ≡ true →
            bit q dirty' ≡ true) →
            Rounds rules dirty' v w → Rounds rules dirty u w

      -- stratum by stratum, the rules of a set: k is the next one
      pub data Strata (strata : List ℕ) : ℕ → ℕ → List ℕ → List ℕ → Type 0 where
        none : {todo k : ℕ} {w : List ℕ} → ((q : ℕ) → q < 64 → bit q todo ≡ true → ⊥) ⊎ (128 < k) →
            Strata strata todo k w w
        then : {todo todo' now k : ℕ} {u v w : List ℕ} →
            ((q : ℕ) → q < 64 → bit q todo ≡ true → get_or strata q 0 ≡ k → bit q now ≡ true) →
            ((q : ℕ) → bit q now ≡ true → (bit q todo ≡ true) × (get_or strata q 0 ≡ k)) →
            ((q : ℕ) → bit q todo ≡ true → (bit q now ≡ true → ⊥) → bit q todo' ≡ true) →
            ((q : ℕ) → bit q todo' ≡ true → bit q todo ≡ true) →
            Rounds now now u v → Strata strata todo' (suc k) v w → Strata strata todo k u w

    -- ---- what is broken

    module _ (words : List ℕ) (last mark : ℕ) where
      -- rule r is marked where it is broken, if it started at the last instant of the window or before
      abbrev pub RuleMarked : ℕ → List ℕ → List ℕ → Type 0
      RuleMarked r old new =
          ((mark < (rule_at p.body r).interval.start) × (new ≡ old))
          ⊎ (((rule_at p.body r).interval.start ≤ mark)
          × PairsRan (turn_in r) p.frame p.left p.need p.codes
          (Mark (turn_in r) p.frame p.number words last)
          (range_for r).from (range_for r).to old new)

      -- each rule of a set, from r on
      pub data Marked (rules : ℕ) : ℕ → List ℕ → List ℕ → Type 0 where
        none : {r : ℕ} {w : List ℕ} → ((q : ℕ) → r ≤ q → q < 64 → bit q rules ≡ true → ⊥) → Marked rules r w w
        then : {u v w : List ℕ} (r q : ℕ) → r ≤ q → q < 64 →
            ((i : ℕ) → r ≤ i → i < q → bit i rules ≡ true → ⊥) → bit q rules ≡ true → RuleMarked q u v →
            Marked rules (suc q) v w → Marked rules r u w
