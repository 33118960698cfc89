-- Rules that share a table: options that fit the same are one, each rule shares with itself, and what the
-- loops over rules keep of sharing.
use mathlib.Core.Path.{◌≡◌, refl, sym, ap, ◌∙◌, subst}
use Rattle.std.specs.Prelude.{Option, None, Some, MatchOption, not}
use Rattle.std.specs.Option.{is_some}
use mathlib.Core.Bool.{Bool, true, false, ◌&&◌, ◌||◌, beq, true≢false, false≢true}
use mathlib.Core.List.{List}
use mathlib.Core.Logic.{◌≢◌, ◌↔◌}
use Prim.Native.Nat.{ℕ, ◌+◌, ◌*◌, ◌≤◌, ◌<◌}
use lib.Dec.{eqb}
use lib.ListN.{length, get_or, set}
use lib.Seq.{get_or-set_same, get_or-set_other}
use Rattle.foundation.specs.Tests.{cases, eq_true, true_eq, and_intro, and-true}
use Rattle.foundation.specs.Tests.{or_cases, or_intro_left, or_true_right}
use Rattle.foundation.specs.BitMasks.{bit}
use Rattle.model.specs.declared.OptionTerm.{OptionTerm}
use Rattle.model.specs.declared.OptionTerm.TheVariants.{With, Without, Either}
use Rattle.model.specs.Stratification.{fits_option}
use Rattle.places.specs.declared.Grid.{Grid}
use Rattle.places.specs.declared.Region.{Region}
use Rattle.places.specs.Regions.{size_of}
use Rattle.tables.specs.TableLayout.{TablesLaid, all_tables, room_of, whole_region}
use Rattle.tables.specs.TableGiving.{shapes_by}
use Rattle.tables.proofs.Rooms.{laid_as}
use Rattle.facts.specs.Sharing.{SharesTable, UsesTable, TablesShared, TablesArranged}

-- options that fit the same are one
pub options_same : (o p : OptionTerm) → beq (fits_option o true) (fits_option p true) ≡ true →
    beq (fits_option o false) (fits_option p false) ≡ true → o ≡ p
options_same With With t f = refl
options_same With Without t f = absurd (false≢true t)
options_same With Either t f = absurd (false≢true f)
options_same Without With t f = absurd (false≢true t)
options_same Without Without t f = refl
options_same Without Either t f = absurd (false≢true t)
options_same Either With t f = absurd (false≢true f)
options_same Either Without t f = absurd (false≢true t)
options_same Either Either t f = refl

-- regions are one where their fields are
pub same_region : (a b : Region) →
    (eqb a.subject b.subject && (eqb a.mode b.mode && eqb a.object b.object) ≡ true) ↔ (a ≡ b)
same_region a b = (
  (λ t. let v = and-true (eqb a.subject b.subject) (eqb a.mode b.mode && eqb a.object b.object) t in
      let w = and-true (eqb a.mode b.mode) (eqb a.object b.object) v.1 in
      let s = true_eq a.subject b.subject v.0 in
      let m = true_eq a.mode b.mode w.0 in
      let o = true_eq a.object b.object w.1 in
      λ i. record { subject = s i; mode = m i; object = o i }),
  (λ e. and_intro (eqb a.subject b.subject) (eqb a.mode b.mode && eqb a.object b.object)
      (eq_true a.subject b.subject (ap (λ (x : Region). x.subject) e))
      (and_intro (eqb a.mode b.mode) (eqb a.object b.object)
      (eq_true a.mode b.mode (ap (λ (x : Region). x.mode) e))
      (eq_true a.object b.object (ap (λ (x : Region). x.object) e)))),
)

pub shares_self : (body right : List ℕ) (c : ℕ) → SharesTable body right c c
shares_self body right c =
    record { kind = record { sign = refl; grantor = refl; option = refl }; region = refl }

-- ---- rules that can share a table

module _ (body right : List ℕ) where
  -- rule i can share one of the tables
  abbrev pub Served : ℕ → ℕ → Type 0
  Served tables i = (d : ℕ) × (bit d tables ≡ true) × SharesTable body right i d

  -- where one was found, rule i can share it
  pub found_one : (tables i : ℕ) (No : Type 0) (o : Option ℕ) (alone : Bool) → is_some o ≡ not alone →
      MatchOption o No (λ d. (bit d tables ≡ true) × SharesTable body right i d) → alone ≡ false →
      Served tables i
  found_one tables i No None alone e m f = absurd (false≢true (e ∙ ap not f))
  found_one tables i No (Some d) alone e m f = (d, m.0, m.1)

  -- rule c gets a table if it can share none
  module _ (c old new : ℕ) (alone : Bool) (found : alone ≡ false → Served old c)
      (grown : (i : ℕ) → bit i new ≡ bit i old || (eqb i c && alone)) where
    kept : (i : ℕ) → bit i old ≡ true → bit i new ≡ true
    kept i e = grown i ∙ or_intro_left (bit i old) (eqb i c && alone) e

    pub served_still : (i : ℕ) → Served old i → Served new i
    served_still i w = (w.0, kept w.0 w.1, w.2)

    pub served_new : Served new c
    served_new = cases alone
        (λ y. (
          c,
          grown c ∙ or_true_right (bit c old) (eqb c c && alone)
              (and_intro (eqb c c) alone (eq_true c c refl) y),
          shares_self body right c,
        ))
        (λ y. served_still c (found y))

    pub only-new : (rules : ℕ) → bit c rules ≡ true → ((i : ℕ) → bit i old ≡ true → bit i rules ≡ true) →
        (i : ℕ) → bit i new ≡ true → bit i rules ≡ true
    only-new rules r h i e = or_cases (bit i old) (eqb i c && alone) (sym (grown i) ∙ e) (h i)
        (λ y. rw (true_eq i c (and-true (eqb i c) alone y).0) r)

  -- rule c, which has no table, is let look at that of rule d
  module _ (tables c d : ℕ) (old new : List ℕ) (none : bit c tables ≡ false) (there : bit d tables ≡ true)
      (room : c < length old) (moved : new ≡ set old c (get_or old d 0)) where
    apart : (i : ℕ) → bit i tables ≡ true → i ≢ c
    apart i e q = true≢false (sym e ∙ ap (λ (n : ℕ). bit n tables) q ∙ none)

    pub start_still : (i : ℕ) → i ≢ c → get_or new i 0 ≡ get_or old i 0
    start_still i n = rw moved (get_or-set_other old c i (get_or old d 0) 0 n)

    pub uses_still : (i e : ℕ) → i ≢ c → UsesTable body right old tables i e →
        UsesTable body right new tables i e
    uses_still i e n w = record {
      there = w.there;
      shares = w.shares;
      start = start_still i n ∙ w.start ∙ sym (start_still e (apart e w.there));
    }

    pub uses_new : SharesTable body right c d → UsesTable body right new tables c d
    uses_new s = record {
      there = there;
      shares = s;
      start = ap (λ (l : List ℕ). get_or l c 0) moved ∙ get_or-set_same old c (get_or old d 0) 0 room
          ∙ sym (start_still d (apart d there));
    }

-- ---- all tables, laid out by codes of the places that those of rules have

-- where each rule has a table, each looks at its own
pub own_tables : (body right first : List ℕ) (rules : ℕ) → TablesShared body right first rules rules
own_tables body right first rules c e =
    (c, record { there = e; shares = shares_self body right c; start = refl })

pub arranged : {body right : List ℕ} {rules : ℕ} {g : Grid} (wide : Bool) {codes : List ℕ} →
    codes ≡ shapes_by wide right → {tables fields to : ℕ} (first : List ℕ) {first' : List ℕ} →
    ((c : ℕ) → bit c tables ≡ true → bit c rules ≡ true) →
    TablesLaid (all_tables g codes tables first) 0 to → fields ≡ to →
    ((c : ℕ) → bit c tables ≡ true → get_or first' c 0 ≡ get_or first c 0) →
    TablesShared body codes first' rules tables →
    fields ≤ 2 * size_of g whole_region + room_of g right rules 64 →
    TablesArranged body right rules g first' (record { tables = tables; wide = wide; fields = fields })
arranged {body} {right} {rules} {g} wide {codes} same {tables} {fields} {to} first {first'} some laid e
    still shared few = record {
      some = some;
      shared = subst (λ (u : List ℕ). TablesShared body u first' rules tables) same shared;
      laid = subst (λ (u : List ℕ). TablesLaid (all_tables g u tables first') 0 fields) same
          (subst (λ (n : ℕ). TablesLaid (all_tables g codes tables first') 0 n) (sym e) (laid_as codes tables first first' still laid));
      few = few;
    }
