-- Rules that look for the same share a table: the one has it, and the others look there too. `shapes` are the
-- codes of the places that the tables of rules have.
use Rattle.std.specs.Prelude.{◌≡◌, true, List, ℕ, ◌+◌, ◌*◌, ◌≤◌, get_or}
use Rattle.foundation.specs.BitMasks.{bit}
use Rattle.model.specs.declared.Rule.{Rule}
use Rattle.encoding.specs.Format.{rule_at}
use Rattle.places.specs.declared.Grid.{Grid}
use Rattle.places.specs.Regions.{size_of}
use Rattle.tables.specs.TableLayout.{region_at, TablesLaid, all_tables, room_of, whole_region}
use Rattle.tables.specs.TableGiving.{shapes_by}
use Rattle.facts.specs.declared.TablePlan.{TablePlan}

-- the same fits the right sides of two rules, but for the access: sign, grantor and option
pub record SameKind (q r : Rule) : Type 0 where
  pub sign : q.right.negative ≡ r.right.negative
  pub grantor : q.grantor ≡ r.grantor
  pub option : q.option ≡ r.option

-- rules c and d can share a table: they look for the same, at the same places
pub record SharesTable (body shapes : List ℕ) (c d : ℕ) : Type 0 where
  pub kind : SameKind (rule_at body c) (rule_at body d)
  pub region : region_at shapes c ≡ region_at shapes d

-- rule c looks at the table of rule d, which has one
pub record UsesTable (body shapes first : List ℕ) (tables c d : ℕ) : Type 0 where
  pub there : bit d tables ≡ true
  pub shares : SharesTable body shapes c d
  pub start : get_or first c 0 ≡ get_or first d 0

-- each rule of a mask looks at some table
abbrev pub TablesShared : (body shapes first : List ℕ) → ℕ → ℕ → Type 0
TablesShared body shapes first rules tables =
    (c : ℕ) → bit c rules ≡ true → (d : ℕ) × UsesTable body shapes first tables c d

-- some of a mask have tables, and each of it can share one of these
pub record TablesEnough (body shapes : List ℕ) (rules tables : ℕ) : Type 0 where
  pub some : (c : ℕ) → bit c tables ≡ true → bit c rules ≡ true
  pub enough : (c : ℕ) → bit c rules ≡ true → (d : ℕ) × (bit d tables ≡ true) × SharesTable body shapes c d

-- all tables are laid out, and each rule of a mask looks at one of a rule of the mask; they have no more
-- fields than a table of its right side for each rule would have
pub record TablesArranged (body right : List ℕ) (rules : ℕ) (g : Grid) (first : List ℕ) (t : TablePlan) :
    Type 0
  where
    pub some : (c : ℕ) → bit c t.tables ≡ true → bit c rules ≡ true
    pub shared : TablesShared body (shapes_by t.wide right) first rules t.tables
    pub laid : TablesLaid (all_tables g (shapes_by t.wide right) t.tables first) 0 t.fields
    pub few : t.fields ≤ 2 * size_of g whole_region + room_of g right rules 64
