-- A question by its access and instant: what is known before places are reached (`AskedOutline`), and what
-- the answer says (`Answers`).
use Rattle.std.specs.Prelude.{◌≡◌, ◌⊎◌, true, false, List, ℕ, ◌*◌, ◌≤◌, length, get_or, drop, Option, Some, None}
use Rattle.std.specs.Option.{unwrap_or}
use Rattle.foundation.specs.Intervals.{in_interval}
use Rattle.foundation.specs.BitMasks.{bit}
use Rattle.model.specs.declared.Access.{Access}
use Rattle.model.specs.Base.{Base}
use Rattle.model.specs.Rules.{may}
use Rattle.encoding.specs.Format.{rule_at}
use Rattle.scan.specs.Runs.{ScannedTo}
use Rattle.outlines.specs.Coordinates.{Chart}
use Rattle.engine.specs.declared.Found.{Found}
use Rattle.sections.specs.Sections.{left_of, feed_of, sides_of, rights_of, subjects_of, objects_of}
use Rattle.queries.specs.declared.Totals.{Totals}
use Rattle.queries.specs.declared.Extent.{Extent}
use Rattle.queries.specs.declared.Inquiry.{Inquiry}
use Rattle.queries.specs.Drawing.{RulesDrawn, chart_for, own_of, Outline}
use Rattle.queries.specs.Starting.{Bodies}

-- ---- the answer

-- MAY is asked at an instant, or else WHEN
abbrev pub last_asked : Option ℕ → ℕ
last_asked instant = unwrap_or instant 4294967295

pub record Answers (instant : Option ℕ) (base : Base) (x : Access) (r : Found) (old new : List ℕ) : Type 0
  where
    pub yes : (t : ℕ) → instant ≡ Some t → r.yes ≡ may base x t
    pub listed : instant ≡ None → ScannedTo (may base x) 4294967295 old 4294967296 r.track new

-- where it is looked from: for WHEN from the first instant on
pub record WalkStart (instant : Option ℕ) (body : List ℕ) (lasts from : ℕ) : Type 0 where
  pub forward : from ≤ last_asked instant
  pub first : (r : ℕ) → bit r lasts ≡ true →
      (from ≤ (rule_at body r).interval.start) ⊎ (in_interval (rule_at body r).interval from ≡ false)
  pub all : instant ≡ None → from ≡ 0

-- ---- before places are reached

pub record AskedOutline (holder : Base) (n : ℕ) (C : Chart) (x own : Access) (s o : ℕ)
    (body left feed sides right : List ℕ) (choosy : ℕ) : Type 0 where
  pub outline : Outline holder n C x body left feed sides right choosy
  pub own_is : own ≡ own_of C x
  pub subject : s ≡ get_or C.subjects x.subject 0
  pub object : o ≡ get_or C.objects x.object 0
  pub some : 1 ≤ x.mode
  pub few : x.mode ≤ 8

-- the bodies are those of a base, and what is known of its rules
pub record Task (lines : List ℕ) (total n : ℕ) (C : Chart) (x own : Access) (s o : ℕ)
    (body left feed sides right : List ℕ) (choosy : ℕ) (base : Base) : Type 0 where
  pub holder : Base
  pub asked_outline : AskedOutline holder n C x own s o body left feed sides right choosy
  pub bodies : Bodies holder lines total body n base

-- ---- by the slices that hold the tables

module _ (records : List ℕ) (n : Totals) where
  -- the rules stand behind the authorizations
  abbrev pub body_in : List ℕ
  body_in = drop (n.authorizations * 24) records

  abbrev pub BodiesIn : Base → Base → Type 0
  BodiesIn holder = Bodies holder records n.authorizations body_in n.rules

  module _ (outline coordinates : List ℕ) where
    abbrev pub DrawnIn : Base → Extent → Type 0
    DrawnIn holder e = RulesDrawn holder n.rules
        (chart_for (subjects_of coordinates) (objects_of coordinates) e) body_in (left_of outline) (feed_of outline)
        (sides_of coordinates) (rights_of coordinates) e.choosy

    -- the slices have room
    pub record SlicesWhole : Type 0 where
      pub recorded : n.authorizations * 24 ≤ length records
      pub outlined : length outline ≡ 536
      pub placed : length coordinates ≡ 1666

abbrev pub TaskIn : (records outline coordinates : List ℕ) → Inquiry → Base → Type 0
TaskIn records outline coordinates k = Task records k.totals.authorizations k.totals.rules
    (chart_for (subjects_of coordinates) (objects_of coordinates) k.extent) k.asked.access k.own
    k.subject k.object (body_in records k.totals) (left_of outline) (feed_of outline)
    (sides_of coordinates) (rights_of coordinates) k.extent.choosy
