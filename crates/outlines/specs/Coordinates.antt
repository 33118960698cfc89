-- Coordinates of subjects and objects: those that right sides name have coordinates from 1 on, in order of
-- the rules; the asked one has coordinate 0 where no right side names it.
use Rattle.std.specs.Prelude.{◌≡◌, Bool, false, not, ◌&&◌, List, ℕ, zero, suc, ◌*◌, ◌-◌, ◌≤◌, ◌<◌, eqb, ltb, length, get_or}
use Rattle.foundation.specs.Tests.{pick}
unfoldable pub use Rattle.foundation.specs.CoordinateTables.{coordinate}
use Rattle.model.specs.declared.Rule.{Rule}
use Rattle.model.specs.declared.Side.{Side}
use Rattle.model.specs.declared.Access.{Access}
use Rattle.model.specs.Ranges.{is_mode}
use Rattle.model.specs.Stratification.{is_star}
use Rattle.encoding.specs.Format.{rule_at}
use Rattle.places.specs.ReachedNumbers.{pair_index}

-- ---- what soundness says of the rules

-- a side of a rule: its numbers are in range, 0 being the star
pub record Ranged (s : Side) : Type 0 where
  pub subject : s.subject ≤ 1023
  pub object : s.object ≤ 128
  pub mode : s.mode ≤ 8

pub record WellFormed (n : ℕ) (body : List ℕ) : Type 0 where
  pub few : n ≤ 64
  pub there : n * 28 ≤ length body
  pub left : (i : ℕ) → i < n → Ranged (rule_at body i).left
  pub right : (i : ℕ) → i < n → Ranged (rule_at body i).right
  -- a subject or an object is starred on both sides of a rule or on neither
  pub stars : (i : ℕ) → i < n →
      (is_star (rule_at body i).left.subject ≡ is_star (rule_at body i).right.subject)
      × (is_star (rule_at body i).left.object ≡ is_star (rule_at body i).right.object)

-- ---- tables of coordinates

-- v can still be given a coordinate
abbrev pub unlisted : List ℕ → ℕ → Bool
unlisted U v = not (eqb v 0) && eqb (get_or U v 0) 0

-- what giving v the coordinate `next`, where it has none yet, makes of a table
pub record Added (U : List ℕ) (v next : ℕ) (U' : List ℕ) (next' : ℕ) : Type 0 where
  pub size : length U' ≡ length U
  pub at : (w : ℕ) → get_or U' w 0 ≡ pick (unlisted U v && eqb w v) next (get_or U w 0)
  pub count : next' ≡ pick (unlisted U v) (suc next) next

-- how many of the first n rules have no star in a field
unfoldable pub named_in : (Rule → ℕ) → ℕ → List ℕ → ℕ
named_in field zero body = 0
named_in field (suc n) body =
    pick (is_star (field (rule_at body n))) (named_in field n body) (suc (named_in field n body))

-- U has coordinates, below `size`, of what a field of the first n rules names
pub record HasCoordinates (field : Rule → ℕ) (n : ℕ) (body U : List ℕ) (size : ℕ) : Type 0 where
  pub some : 0 < size
  pub few : size ≤ suc n
  -- coordinate 0, and at most one for each rule that names something
  pub fewer : size ≤ suc (named_in field n body)
  pub below : (v : ℕ) → get_or U v 0 < size
  pub apart : (v w : ℕ) → 0 < get_or U v 0 → get_or U v 0 ≡ get_or U w 0 → v ≡ w
  pub named : (i : ℕ) → i < n → is_star (field (rule_at body i)) ≡ false → 0 < get_or U (field (rule_at body i)) 0
  -- every coordinate is that of some number
  pub onto : (c : ℕ) → 0 < c → c < size → (v : ℕ) × (get_or U v 0 ≡ c)
  -- 0, which nobody has, has none
  pub star : get_or U 0 0 ≡ 0

-- each number has its own coordinate, or none
pub record Apart (U : List ℕ) : Type 0 where
  pub below : (v : ℕ) → get_or U v 0 < 65
  pub apart : (v w : ℕ) → 0 < get_or U v 0 → get_or U v 0 ≡ get_or U w 0 → v ≡ w

abbrev pub subject_on_right : Rule → ℕ
subject_on_right r = r.right.subject

abbrev pub object_on_right : Rule → ℕ
object_on_right r = r.right.object

-- ---- accesses

-- the tables of coordinates, and how many coordinates there are
pub record Chart : Type 0 where
  pub subjects : List ℕ
  pub objects : List ℕ
  pub width : ℕ
  pub height : ℕ

-- the tables are those of the rules
pub record Charted (n : ℕ) (body : List ℕ) (C : Chart) : Type 0 where
  pub subjects : HasCoordinates subject_on_right n body C.subjects C.width
  pub objects : HasCoordinates object_on_right n body C.objects C.height

abbrev pub mode_of : Access → ℕ
mode_of x = x.mode - 1

module _ (C : Chart) (asked : Access) where
  abbrev pub subject_of : Access → ℕ
  subject_of x = coordinate C.subjects asked.subject x.subject

  abbrev pub object_of : Access → ℕ
  object_of x = coordinate C.objects asked.object x.object

  -- an access that has a place
  unfoldable pub known : Access → Bool
  known x = ltb (object_of x) C.height && ltb (subject_of x) C.width && is_mode x.mode

  -- the pair of its object and its subject
  abbrev pub pair_of : Access → ℕ
  pair_of x = pair_index C.width (object_of x) (subject_of x)
