-- A question as it is put to the tables (`Posed`), what is kept for it of the time before (`CarriedAt`), and
-- what the walk from window to window starts with (`Walks`) and finds (`Finds`).
use Rattle.std.specs.Prelude.{◌≡◌, true, false, List, ℕ, suc, ◌≤◌, length, None}
use Rattle.foundation.specs.Lists.{Mem, keep_if}
use Rattle.foundation.specs.Intervals.{maximal}
use Rattle.foundation.specs.BitMasks.{bit}
use Rattle.model.specs.declared.Access.{Access}
use Rattle.model.specs.declared.Authorization.{Authorization}
use Rattle.model.specs.Base.{Base}
use Rattle.model.specs.Stratification.{stratified}
use Rattle.model.specs.Rules.{stands_for, may}
use Rattle.encoding.specs.Format.{rules_in, rule_at}
use Rattle.laws.specs.Narrowing.{access_of}
use Rattle.derivation.specs.Carried.{Carried}
use Rattle.relevance.specs.declared.Chosen.{Chosen}
use Rattle.relevance.specs.Chosen.{picked, selected, Picks}
use Rattle.relevance.specs.Needed.{HeadInRange}
use Rattle.relevance.specs.Forgotten.{during}
use Rattle.scan.specs.Runs.{ScannedTo}
use Rattle.outlines.specs.Coordinates.{Chart}
use Rattle.outlines.specs.NeededAccesses as outlines
use Rattle.grounding.specs.RuleSteps.{broken_in}
use Rattle.grounding.specs.Meaning.{place_of}
use Rattle.grounding.specs.RuleTurns.{Prepared, turn_in}
use Rattle.engine.specs.declared.Query.{Query}
use Rattle.engine.specs.declared.Found.{Found}
use Rattle.engine.specs.Drawn.{SamePowers, Drawn, mapping_of}

-- the tables are drawn for the asked access x, and `base` has what matters to it: the rules of the mask, and
-- authorizations at needed accesses; and all owners and administrators
pub record Posed (n : ℕ) (C : Chart) (own : Access) (p : Prepared) (needed words bits : ℕ) (base : Base)
    (x : Access) : Type 0 where
  pub holder : Base
  pub drawn : Drawn holder n C own p needed words bits
  pub powers : SamePowers base holder
  pub strata : stratified base.rules ≡ true
  pub rules : base.rules ≡ selected needed (rules_in n p.body)
  pub matters : outlines.needed C own p.need x ≡ true
  pub lines : (a : Authorization) → Mem a base.authorizations →
      (outlines.needed C own p.need (access_of a.head) ≡ true) × HeadInRange a.head
      × (a.interval.start ≤ a.interval.end)

module _ {n : ℕ} {C : Chart} {own : Access} {p : Prepared} {needed words bits₀ : ℕ} {base : Base} {x : Access}
    (posed : Posed n C own p needed words bits₀ base x) where
  -- what is kept of the time before t is right
  abbrev pub CarriedAt : ℕ → List ℕ → Type 0
  CarriedAt t bits = (active : List ℕ) (r : ℕ) → bit r needed ≡ true → (y : Access) →
      outlines.needed C own p.need y ≡ true → stands_for base (rule_at p.body r) y ≡ true →
      Carried base t (rule_at p.body r) y
      (broken_in (turn_in p active r) p.frame.grid bits (place_of (mapping_of base C own p) y))

-- the walk can start
pub record Walks (lines which : List ℕ) (c : Chosen) (lasting : ℕ) (q : Query) (C : Chart) (p : Prepared)
    (words bits : List ℕ) (base : Base) (x : Access) : Type 0 where
  pub posed : Posed c.rules C q.own p c.needed (length words) (length bits) base x
  pub picks : Picks lines which c.authorizations
  -- the authorizations that have an asked instant
  pub picked_all : picked lines which c.authorizations
      ≡ keep_if (during q.from q.to) base.authorizations
  pub place : q.place ≡ place_of (mapping_of base C q.own p) x
  pub forward : q.from ≤ q.to
  pub lasts : (r : ℕ) → bit r lasting ≡ bit r posed.drawn.lasts
  -- what is kept of the time before
  pub carried : (active : List ℕ) (r : ℕ) → bit r c.needed ≡ true → (y : Access) →
      outlines.needed C q.own p.need y ≡ true → stands_for base (rule_at p.body r) y ≡ true →
      Carried base q.from (rule_at p.body r) y
      (broken_in (turn_in p active r) p.frame.grid bits (place_of (mapping_of base C q.own p) y))
  pub few : length (maximal 0 q.to (may base x)) ≤ 1089
  -- where intervals are written down, none begins before the first instant
  pub fresh : q.listing ≡ true → maximal 0 q.to (may base x) ≡ maximal q.from q.to (may base x)

-- no interval, and no
abbrev pub nothing : Found
nothing = record { track = record { count = 0; began = None }; yes = false }

-- what it finds
pub record Finds (q : Query) (base : Base) (x : Access) (r : Found) (old new : List ℕ) : Type 0 where
  pub last : r.yes ≡ may base x q.to
  pub listed : q.listing ≡ true → ScannedTo (may base x) q.to old (suc q.to) r.track new
