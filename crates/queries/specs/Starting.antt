-- What a walk over the tables of a question starts from: the bodies of a base (`Bodies`), the tables and what
-- is asked of them (`Tabled`), without authorizations (`WalkGiven`) and with those that are chosen (`Begun`).
use Rattle.std.specs.Prelude.{◌≡◌, ◌⊎◌, Bool, true, false, List, ℕ, ◌+◌, ◌*◌, ◌-◌, ◌/◌, ◌^◌, ◌≤◌, length, get_or}
use Rattle.foundation.specs.Lists.{Mem}
use Rattle.foundation.specs.Intervals.{interval, in_interval}
use Rattle.foundation.specs.BitMasks.{bit}
use Rattle.model.specs.declared.Access.{Access}
use Rattle.model.specs.declared.Authorization.{Authorization}
use Rattle.model.specs.declared.Rule.{Rule}
use Rattle.model.specs.Base.{Base}
use Rattle.model.specs.Stratification.{stratified}
use Rattle.encoding.specs.Format.{rules_in, rule_at, authorizations_in}
use Rattle.questions.specs.RuleNumbers.{Numbering}
use Rattle.masks.specs.RuleMasks.{Needed}
use Rattle.relevance.specs.declared.Chosen.{Chosen}
use Rattle.relevance.specs.Needed.{HeadInRange, Choice, is_chosen}
use Rattle.places.specs.ReachedNumbers.{pair_index}
use Rattle.tables.specs.declared.Frame.{Frame}
use Rattle.tables.specs.declared.Place.{Place}
use Rattle.outlines.specs.Coordinates.{WellFormed, Chart}
use Rattle.outlines.specs.NeededAccesses.{needed}
use Rattle.grounding.specs.RuleTurns.{Prepared}
use Rattle.engine.specs.declared.Query.{Query}
use Rattle.engine.specs.Drawn.{SamePowers}
use Rattle.engine.specs.Going.{chart_in, prepared_for}
use Rattle.engine.specs.declared.WindowWalk.{WindowWalk}
use Rattle.sections.specs.Sections.{which_of}
use Rattle.queries.specs.Drawing.{own_of, Outline, Mapped, Arranged, sized}

-- ---- the bodies of a base

-- the bytes hold the authorizations and the rules of a base, and what soundness says of these; its owners and
-- administrators are those of `holder`
pub record Bodies (holder : Base) (lines : List ℕ) (total : ℕ) (body : List ℕ) (n : ℕ) (base : Base) : Type 0
  where
    pub lines_are : base.authorizations ≡ authorizations_in total lines
    pub rules_are : base.rules ≡ rules_in n body
    pub few : total ≤ 1024
    pub there : total * 24 ≤ length lines
    pub well_formed : WellFormed n body
    pub strata : stratified base.rules ≡ true
    pub number : Rule → ℕ
    pub numbering : Numbering base.rules number (rule_at body)
    pub lines_in : (a : Authorization) → Mem a base.authorizations →
        HeadInRange a.head × (a.interval.start ≤ a.interval.end)
    pub powers : SamePowers base holder

-- ---- the tables, and what is asked of them

-- the place of the asked access
abbrev pub asked_place : Chart → Access → List ℕ → Place
asked_place C x number =
    let s : ℕ = get_or C.subjects x.subject 0 in
    let o : ℕ = get_or C.objects x.object 0 in
    record {
      pair = get_or number (pair_index C.width o s) 0;
      point = record { subject = s; mode = x.mode - 1; object = o };
    }

-- what is asked: no rule that looks back has to look behind the first instant
pub record QueryPosed (C : Chart) (x : Access) (body number : List ℕ) (lasts : ℕ) (q : Query) : Type 0 where
  pub own : q.own ≡ own_of C x
  pub place : q.place ≡ asked_place C x number
  pub forward : q.from ≤ q.to
  pub first : (r : ℕ) → bit r lasts ≡ true →
      (q.from ≤ (rule_at body r).interval.start) ⊎ (in_interval (rule_at body r).interval q.from ≡ false)
  -- intervals are written down from the first instant of all on
  pub whole : q.listing ≡ true → q.from ≡ 0

-- the authorizations that are chosen: they have an instant that is asked, and are needed
abbrev pub chosen_for : Chart → Access → Prepared → Query → Authorization → Bool
chosen_for C own p q =
    is_chosen (interval q.from q.to) C.subjects C.objects own C.width p.need

-- all tables, for fields of whichever width
pub record Tabled (holder : Base) (n : ℕ) (C : Chart) (p : Prepared) (rules lasts total : ℕ) (q : Query)
    (x : Access) : Type 0
  where
    pub choosy : ℕ
    pub outline : Outline holder n C x p.body p.left p.feed p.sides p.right choosy
    pub mapped : Mapped C p.left p.right p.need p.number p.codes p.frame.grid
    pub needs : Needed p.left p.need p.codes C.width p.frame.grid.pairs rules
    pub arranged : Arranged n p.body p.sides p.right p.first p.starts choosy rules lasts total
        p.frame
    pub matters : needed C (own_of C x) p.need x ≡ true
    pub asked : QueryPosed C x p.body p.number lasts q

-- ---- as the code has it

-- the tables are made, and the authorizations that matter are chosen
pub record Begun (lines which : List ℕ) (c : Chosen) (lasts total : ℕ) (q : Query) (C : Chart) (p : Prepared)
    (base : Base) (x : Access) : Type 0 where
  pub holder : Base
  pub tabled : Tabled holder c.rules C p c.needed lasts total q x
  pub count : ℕ
  pub bodies : Bodies holder lines count p.body c.rules base
  pub entry : List ℕ
  pub chosen : Choice (chosen_for C (own_of C x) p q) lines count entry which c.authorizations
  pub long : count ≤ length entry

-- a frame with fields of a width for which words of a length have room
pub record Sized (f : Frame) (words : ℕ) (g : Frame) : Type 0 where
  pub width : ℕ
  pub narrow : width ≤ 6
  pub fits : f.fields * 2 ^ width ≤ 64 * words
  pub same : g ≡ sized f width

-- the tables and the bodies are there, before authorizations are chosen
pub record WalkGiven (lines : List ℕ) (total n rules lasts bits : ℕ) (q : Query) (C : Chart) (p : Prepared)
    (base : Base) (x : Access) : Type 0 where
  pub holder : Base
  pub tabled : Tabled holder n C p rules lasts bits q x
  pub bodies : Bodies holder lines total p.body n base

-- ---- by the slices that hold the tables

module _ (records outline coordinates need numbers : List ℕ) (w : WindowWalk) where
  abbrev pub BegunIn : Base → Access → Type 0
  BegunIn = Begun records (which_of (length need) numbers) w.chosen w.lasting w.bits w.query
      (chart_in coordinates w.frame) (prepared_for records outline coordinates need numbers w)

  -- of all authorizations none is chosen yet
  abbrev pub WalkGivenIn : Base → Access → Type 0
  WalkGivenIn = WalkGiven records w.chosen.authorizations w.chosen.rules w.chosen.needed
      w.lasting w.bits w.query (chart_in coordinates w.frame)
      (prepared_for records outline coordinates need numbers w)

  -- the slices have room
  pub record Sectioned : Type 0 where
    pub bodied : w.offset ≤ length records
    pub outlined : length outline ≡ 536
    pub placed : length coordinates ≡ 1666
    pub numbered : 2 * length need + w.chosen.authorizations ≤ length numbers

-- how many words hold broken bits, or one more
abbrev pub broken_words : ℕ → ℕ
broken_words bits = bits / 64 + 1

-- a number of words has room for them and for the fields, a bit each or more
abbrev pub RoomFor : ℕ → WindowWalk → Type 0
RoomFor words w =
    (broken_words w.bits ≤ words) × (w.frame.fields ≤ 64 * (words - broken_words w.bits))
