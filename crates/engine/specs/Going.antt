-- How far the walk from window to window is (`Going`).
use Rattle.std.specs.Prelude.{◌≡◌, true, List, ℕ, suc, ◌≤◌, ◌<◌, leb, length, drop}
use Rattle.foundation.specs.Tests.{pick}
use Rattle.foundation.specs.Lists.{keep_if}
use Rattle.model.specs.declared.Access.{Access}
use Rattle.model.specs.Base.{Base}
use Rattle.model.specs.Rules.{may}
use Rattle.relevance.specs.declared.Chosen.{Chosen}
use Rattle.relevance.specs.Chosen.{picked, Picks}
use Rattle.relevance.specs.Forgotten.{ends_from, during}
use Rattle.scan.specs.Runs.{ScannedTo}
use Rattle.tables.specs.declared.Frame.{Frame}
use Rattle.outlines.specs.Coordinates.{Chart}
use Rattle.sections.specs.Sections.{strata_of, subjects_of, objects_of, which_of}
use Rattle.grounding.specs.RuleTurns.{Prepared, prepared_in, fields_in, bits_in, SlicedIn}
use Rattle.engine.specs.declared.WindowWalk.{WindowWalk}
use Rattle.engine.specs.declared.Query.{Query}
use Rattle.engine.specs.declared.walking.Progress.{Progress}
use Rattle.engine.specs.Evaluation.{StrataKnown}
use Rattle.engine.specs.Posed.{CarriedAt, Walks}

abbrev pub chart_of : List ℕ → List ℕ → Frame → Chart
chart_of subjects objects f = record {
  subjects = subjects;
  objects = objects;
  width = f.grid.subjects;
  height = f.grid.objects;
}

-- by the slices that hold the tables
abbrev pub chart_in : List ℕ → Frame → Chart
chart_in coordinates f = chart_of (subjects_of coordinates) (objects_of coordinates) f

-- t, but no instant behind the one that follows `to`
abbrev pub capped_at : ℕ → ℕ → ℕ
capped_at to t = pick (leb t to) t (suc to)

-- what is asked, and what the walk started with
pub record Start : Type 0 where
  pub base : Base
  pub access : Access
  pub which : List ℕ
  pub words : List ℕ
  pub bits : List ℕ
  pub list : List ℕ

-- all instants before the next are done
pub record Going (lines : List ℕ) (c : Chosen) (lasting : ℕ) (q : Query) (C : Chart) (p : Prepared)
    (o : Start) (strata which words bits list : List ℕ) (s : Progress) : Type 0 where
  pub walks : Walks lines o.which c lasting q C p o.words o.bits o.base o.access
  pub low : q.from ≤ s.next
  pub high : s.next ≤ 4294967296
  pub picks : Picks lines which s.left
  -- what is left of the authorizations
  pub since : ℕ
  pub past : since ≤ s.next
  pub left : picked lines which s.left
      ≡ keep_if (ends_from since) (keep_if (during q.from q.to) o.base.authorizations)
  pub carried : s.next ≤ q.to → CarriedAt walks.posed s.next bits
  pub listed : q.listing ≡ true →
      ScannedTo (may o.base o.access) q.to o.list (capped_at q.to s.next) s.track list
  pub last : q.to < s.next → s.yes ≡ may o.base o.access q.to
  pub ranked : s.ranked ≡ true → StrataKnown c.rules c.needed p.body strata
  pub words_size : length words ≡ length o.words
  pub bits-size : length bits ≡ length o.bits

-- ---- as the code has it

module _ (records outline coordinates need numbers : List ℕ) where
  -- what the slices hold for a walk
  abbrev pub prepared_for : WindowWalk → Prepared
  prepared_for w = prepared_in (drop w.offset records) outline coordinates need numbers w.frame

  module _ (work : List ℕ) (w : WindowWalk) where
    abbrev pub WalksIn : Base → Access → Type 0
    WalksIn = Walks records (which_of (length need) numbers) w.chosen w.lasting w.query
        (chart_in coordinates w.frame) (prepared_for w) (fields_in w.frame work) (bits_in w.frame work)

    abbrev pub GoingIn : List ℕ → Start → Progress → Type 0
    GoingIn list o s = Going records w.chosen w.lasting w.query (chart_in coordinates w.frame)
        (prepared_for w) o (strata_of outline) (which_of (length need) numbers) (fields_in w.frame work)
        (bits_in w.frame work) list s

    -- they have room for it
    pub record Roomy : Type 0 where
      pub body : w.offset ≤ length records
      pub held : SlicedIn outline coordinates need numbers w.frame work
