-- A question is put to the tables once they are drawn (`posed`), and the walk over them can start (`walks`).
-- What it finds in the narrowed base is true of the whole one (`whole-found`).
use mathlib.Core.Path.{◌≡◌, refl, sym, ap, ◌∙◌, subst}
use mathlib.Core.Logic.{⊎_elim, ◌↔◌}
use mathlib.Core.Bool.{Bool, true, false, not, ◌&&◌, ◌||◌, true≢false}
use mathlib.Core.List.{List, ◌++◌, append-nil}
use Prim.Native.Nat.{ℕ, suc, ◌+◌, ◌*◌, ◌-◌, ◌/◌, ◌^◌, ◌≤◌}
use native.Mathlib.Nat.{mul-le-mul_right}
use native.Mathlib.Omega.{arith}
use lib.Dec.{eqb, leb}
use lib.ListN.{length, get_or, replicate, length-replicate, take, drop, length-drop, drop_of_length-le}
use lib.Seq.{get_or-drop, drop_at, length-take-le}
use Rattle.foundation.specs.Tests.{le-true, and-true, and_intro, and-false}
use Rattle.foundation.specs.Lists.{kept}
use Rattle.foundation.specs.Intervals.{maximal}
use Rattle.foundation.specs.BitMasks.{bit}
use Rattle.foundation.specs.ByteRecords.{length-records, record_mem}
use Rattle.foundation.specs.MaximalCount.{maximal_count}
use Rattle.model.specs.declared.Access.{Access}
use Rattle.model.specs.declared.Authorization.{Authorization}
use Rattle.model.specs.Base.{Base}
use Rattle.model.specs.Encoding.{authorization_of, rule_of}
use Rattle.model.specs.Stratification.{negates, lasting}
use Rattle.model.specs.Rules.{may}
use Rattle.model.specs.Means.{all_marks}
use Rattle.model.proofs.HoldsMarks.{may_steady, all_marks-length}
use Rattle.encoding.specs.Format.{rule_at}
use Rattle.laws.specs.Narrowing.{narrowed, narrowed-stratified}
use Rattle.derivation.specs.Carried.{Carried}
use Rattle.words.specs.Fields.{field_of}
use Rattle.masks.proofs.ClearFields.{clear_fields}
use Rattle.relevance.specs.declared.Chosen.{Chosen}
use Rattle.relevance.specs.Chosen.{authorization_at}
use Rattle.relevance.specs.Needed as choice
use Rattle.relevance.specs.Needed.{Choice, cell_of, is_needed}
use Rattle.relevance.proofs.ChoiceFacts.{choice_picks}
use Rattle.relevance.specs.Forgotten.{during}
use Rattle.tables.specs.declared.Frame.{Frame}
use Rattle.scan.specs.Runs.{ScannedTo}
use Rattle.outlines.specs.Coordinates.{Chart}
use Rattle.outlines.specs.NeededAccesses.{needed}
use Rattle.grounding.specs.RuleSteps.{broken_in, broken_at}
use Rattle.grounding.specs.Meaning.{place_of}
use Rattle.grounding.specs.RuleTurns.{Prepared, prepared, turn_in, words_for}
use Rattle.engine.specs.declared.Query.{Query}
use Rattle.engine.specs.declared.Found.{Found}
use Rattle.engine.specs.Drawn.{Drawn, mapping_of}
use Rattle.engine.proofs.NarrowedBase.{Both, rule_matters, selected_rules, chosen_lines, kept_line}
use Rattle.engine.proofs.NarrowedBase.{narrowed-may}
use Rattle.engine.specs.Going.{chart_of, chart_in, prepared_for, Roomy}
use Rattle.engine.specs.declared.WindowWalk.{WindowWalk}
use Rattle.sections.specs.Sections.{left_of, feed_of, first_of, starts_of, sides_of, rights_of}
use Rattle.sections.specs.Sections.{numbered_of, listed_of, which_of}
use Rattle.sections.proofs.SectionWrites.{part_long, same_front, same_part, put_back, back-length, back-before}
use Rattle.engine.specs.Posed.{Posed, Walks, nothing, Finds}
use Rattle.engine.proofs.NothingFound.{nothing-found}
use Rattle.queries.specs.Drawing.{own_of, Outline, sized}
use Rattle.queries.specs.Starting.{Bodies, asked_place, chosen_for, Tabled, Begun, Sized, WalkGiven}
use Rattle.queries.specs.Starting.{BegunIn, WalkGivenIn, Sectioned, broken_words}
use Rattle.queries.proofs.DrawingFacts.{own_coordinate, chart_small, fields_small, total_small, drawn}

-- ---- the bodies of a base

-- MAY says yes in few intervals, up to whichever instant
few_intervals : {holder : Base} {lines : List ℕ} {total : ℕ} {body : List ℕ} {n : ℕ} {base : Base} →
    Bodies holder lines total body n base → (x : Access) (to : ℕ) →
    length (maximal 0 to (λ t. may base x t)) ≤ 1089
few_intervals {holder} {lines} {total} {body} {n} {base} b x to = omega (
  arith,
  maximal_count (λ t. may base x t) (all_marks base) (may_steady base x) to,
  all_marks-length base,
  ap length b.lines_are,
  ap length b.rules_are,
  length-records 24 authorization_of total lines,
  length-records 28 rule_of n body,
  b.few,
  b.well_formed.few,
)

-- ---- the authorizations that are chosen

-- the tables are ready to choose by
module _ {holder : Base} {n : ℕ} {C : Chart} {x : Access} {body left feed sides right : List ℕ} {choosy : ℕ}
    (o : Outline holder n C x body left feed sides right choosy) where
  pub choice_ready : {lines : List ℕ} {total : ℕ} {base : Base} → Bodies holder lines total body n base →
      (need which : List ℕ) → length need ≡ C.height * C.width → total ≤ length which →
      choice.ChoiceReady lines total C.subjects C.objects C.width need which
  choice_ready {lines} {total} {base} b need which size room =
      let s = chart_small C o.rules.well_formed.few o.rules.charted in
      record {
        bytes = b.there;
        placed = λ i h. (b.lines_in (authorization_at lines i)
            (rw b.lines_are (record_mem 24 authorization_of total lines i h))).0;
        narrow = omega (arith, s.0);
        columns = o.rules.charted.subjects.below;
        rows = λ v.
            let q : (get_or C.objects v 0 + 1) * C.width ≤ C.height * C.width =
            mul-le-mul_right C.width (omega (arith, o.rules.charted.objects.below v)) in
            omega (arith, size);
        numbers = omega (arith, b.few);
        room = room;
      }

-- an authorization is needed exactly if both signs are needed at its coordinates
needed-both : (C : Chart) (own : Access) (need : List ℕ) (a : Authorization) →
    (is_needed C.subjects C.objects own C.width need a ≡ true)
    ↔ Both C.width need (cell_of C.subjects C.objects own a.head) a.head
needed-both C own need a =
    let c = cell_of C.subjects C.objects own a.head in
    let h = a.head in
    let p : Bool = not (eqb c.subject 255 || eqb c.object 255) in
    let q : Bool = bit (h.mode - 1) (get_or need (c.object * C.width + c.subject) 0) in
    let r : Bool = bit (8 + (h.mode - 1)) (get_or need (c.object * C.width + c.subject) 0) in (
      (λ e. let w = and-true p (q && r) e in
          let v = and-true q r w.1 in
          record { there = w.0; held = v.0; denied = v.1 }),
      (λ b. and_intro p (q && r) b.there (and_intro q r b.held b.denied)),
    )

-- ---- the question

module _ {holder : Base} {n : ℕ} {C : Chart} {own : Access} {p : Prepared} {rules words bits : ℕ}
    (d : Drawn holder n C own p rules words bits) {lines : List ℕ} {total : ℕ} {base : Base}
    (b : Bodies holder lines total p.body n base) where
  abbrev pub needed_line : Authorization → Bool
  needed_line = is_needed C.subjects C.objects own C.width p.need

  -- the base with what matters alone
  abbrev pub needed_base : Base
  needed_base = narrowed base needed_line
      (rule_matters d base b.powers b.rules_are b.number b.numbering)

  pub posed : (x : Access) → needed C own p.need x ≡ true → Posed n C own p rules words bits needed_base x
  posed x m = record {
    holder = holder;
    drawn = d;
    powers = b.powers;
    strata = narrowed-stratified base b.strata needed_line
        (rule_matters d base b.powers b.rules_are b.number b.numbering);
    rules = selected_rules d base b.powers b.rules_are b.number b.numbering;
    matters = m;
    lines = λ a e.
        let w = b.lines_in a (kept needed_line base.authorizations a e).0 in (
          kept_line d base b.powers b.rules_are b.number b.numbering needed_line
              (needed-both C own p.need) a
              (and_intro (leb 1 a.head.mode) (leb a.head.mode 8)
              (le-true 1 a.head.mode w.0.some) (le-true a.head.mode 8 w.0.mode)) e,
          w.0,
          w.1,
        );
  }

  -- it says of the asked access what the whole base says
  pub needed_base-may : (x : Access) → needed C own p.need x ≡ true → (t : ℕ) →
      may base x t ≡ may needed_base x t
  needed_base-may = narrowed-may d base b.powers b.rules_are b.number b.numbering needed_line
      (needed-both C own p.need) b.strata

-- ---- the tables, and what is asked of them

-- the tables for fields of another width
abbrev pub with_width : Prepared → ℕ → Prepared
with_width p k = prepared p.body p.left p.feed p.sides p.right p.need p.codes p.number
    p.first p.starts (sized p.frame k)

-- bits that are 0 say that nothing is broken
unbroken : (bits : List ℕ) → ((j : ℕ) → get_or bits j 0 ≡ 0) → (i : ℕ) → eqb (field_of 0 bits i) 1 ≡ false
unbroken bits zero i = ap (λ (v : ℕ). eqb v 1) (clear_fields 0 (suc i) bits (λ j h. zero j) i (omega arith))

module _ {holder : Base} {C : Chart} {p : Prepared} {lasts total : ℕ} {q : Query} {x : Access} (c : Chosen)
    (t : Tabled holder c.rules C p c.needed lasts total q x) (k : ℕ) (words bits : List ℕ)
    (rights : 256 ≤ length p.right) (firsts : 64 ≤ length p.first) (narrow : k ≤ 6)
    (fits : p.frame.fields * 2 ^ k ≤ 64 * length words)
    (room : total ≤ 64 * length bits) where
  pub tables_drawn : Drawn holder c.rules C (own_of C x) (with_width p k) c.needed (length words)
      (length bits)
  tables_drawn = drawn t.outline t.mapped t.needs t.arranged rights firsts k (length words)
      (length bits) narrow fits room

  module _ {lines : List ℕ} {count : ℕ} {base : Base}
      (b : Bodies holder lines count p.body c.rules base)
      (entry which : List ℕ) (chosen : Choice (chosen_for C (own_of C x) p q) lines count entry which
      c.authorizations) (long : count ≤ length entry)
      (zero : (j : ℕ) → get_or bits j 0 ≡ 0) where
    abbrev few : Base
    few = needed_base tables_drawn b

    place_is : asked_place C x p.number ≡ place_of (mapping_of few C (own_of C x) (with_width p k)) x
    place_is = rw (
      own_coordinate C.subjects x.subject,
      own_coordinate C.objects x.object,
      t.mapped.grid.0,
    )

    abbrev asking : Query
    asking = record {
      own = own_of C x;
      place = place_of (mapping_of few C (own_of C x) (with_width p k)) x;
      from = q.from;
      to = q.to;
      listing = q.listing;
    }

    carried_none : (active : List ℕ) (r : ℕ) → bit r c.needed ≡ true → (y : Access) →
        Carried few q.from (rule_at p.body r) y (broken_in (turn_in (with_width p k) active r)
        p.frame.grid bits (place_of (mapping_of few C (own_of C x) (with_width p k)) y))
    carried_none active r e y =
        let rule = rule_at p.body r in
        let turn = turn_in (with_width p k) active r in
        let at = place_of (mapping_of few C (own_of C x) (with_width p k)) y in
        let none : broken_in turn p.frame.grid bits at ≡ false =
        ap (λ (v : Bool). lasting rule.operator && v)
        (unbroken bits zero (broken_at turn p.frame.grid at))
        ∙ and-false (lasting rule.operator) in
        subst (λ (v : Bool). Carried few q.from rule y v) (sym none) (record {
          fresh = λ h. refl;
          past = λ l h i. absurd (⊎_elim
              (λ w. omega arith)
              (λ w. true≢false (sym i ∙ w))
              (t.asked.first r (t.arranged.lasts_is r
              ∙ and_intro (bit r c.needed) (lasting rule.operator) e l)));
        })

    asking_walks : Walks lines which c lasts asking C (with_width p k) words bits few x
    asking_walks = record {
      posed = posed tables_drawn b x t.matters;
      picks = choice_picks (chosen_for C (own_of C x) p q) lines count entry which c.authorizations
          b.there long chosen;
      picked_all = chosen_lines tables_drawn base b.powers b.rules_are b.number b.numbering
          (needed_line tables_drawn b) (needed-both C (own_of C x) p.need) (during q.from q.to) lines
          count entry which c.authorizations b.lines_are chosen;
      place = refl;
      forward = t.asked.forward;
      lasts = λ r. t.arranged.lasts_is r
          ∙ sym ((posed tables_drawn b x t.matters).drawn.lasts_is r);
      carried = λ active r e y m s. carried_none active r e y;
      few = subst (λ (f : ℕ → Bool). length (maximal 0 q.to f) ≤ 1089)
          (λ i u. needed_base-may tables_drawn b x t.matters u i) (few_intervals b x q.to);
      fresh = λ l. ap (λ (a : ℕ). maximal a q.to (may few x)) (sym (t.asked.whole l));
    }

    -- the walk can start
    pub walks : Walks lines which c lasts q C (with_width p k) words bits (needed_base tables_drawn b) x
    walks =
        let e = t.asked.own in
        let l = t.asked.place ∙ place_is in
        let same : asking ≡ q = λ i. record {
          own = sym e i;
          place = sym l i;
          from = q.from;
          to = q.to;
          listing = q.listing;
        } in
        subst (λ (w : Query). Walks lines which c lasts w C (with_width p k) words bits few x) same
        asking_walks

    -- and what it finds is true of the whole base
    pub whole-found : (r : Found) (old new : List ℕ) → Finds q (needed_base tables_drawn b) x r old new →
        Finds q base x r old new
    whole-found r old new w =
        let same : ◌≡◌ {A = ℕ → Bool} (may few x) (may base x) =
        λ i u. sym (needed_base-may tables_drawn b x t.matters u) i in
        record {
          last = w.last ∙ sym (needed_base-may tables_drawn b x t.matters q.to);
          listed = λ l. subst (λ (f : ℕ → Bool). ScannedTo f q.to old (suc q.to) r.track new) same
              (w.listed l);
        }

-- ---- as the code has it

-- bits, as they are at the start
pub record Fresh (total : ℕ) (bits : List ℕ) : Type 0 where
  pub room : total ≤ 64 * length bits
  pub zero : (j : ℕ) → get_or bits j 0 ≡ 0

-- a table of zeros
pub zeros_at : (n i : ℕ) → ◌≡◌ {A = ℕ} (get_or (replicate n 0) i 0) 0
zeros_at ℕ.zero i = refl
zeros_at (suc n) ℕ.zero = refl
zeros_at (suc n) (suc i) = zeros_at n i

-- a walk can start, and what it finds is true of the base
pub record Starts (lines which : List ℕ) (c : Chosen) (lasts : ℕ) (q : Query) (C : Chart) (p : Prepared)
    (words bits : List ℕ) (base : Base) (x : Access) : Type 0 where
  pub small : Base
  pub walks : Walks lines which c lasts q C p words bits small x
  pub found : (r : Found) (old new : List ℕ) → Finds q small x r old new → Finds q base x r old new

module _ {lines which : List ℕ} {c : Chosen} {lasts total : ℕ} {q : Query} {subjects objects body left feed
    sides
    right need codes number first starts : List ℕ} {f : Frame} {base : Base} {x : Access}
    (b : Begun lines which c lasts total q (chart_of subjects objects f)
    (prepared body left feed sides right need codes number first starts f) base x) where
  pub begun-starts : 256 ≤ length right → 64 ≤ length first → (g : Frame) (words bits : List ℕ) →
      Sized f (length words) g → Fresh total bits →
      Starts lines which c lasts q (chart_of subjects objects g)
      (prepared body left feed sides right need codes number first starts g) words bits base x
  begun-starts rights firsts g words bits s h =
      let k = s.width in
      subst (λ (w : Frame). Starts lines which c lasts q (chart_of subjects objects w)
      (prepared body left feed sides right need codes number first starts w) words bits base x)
      (sym s.same)
      (record {
        small = needed_base (tables_drawn c b.tabled k words bits rights firsts s.narrow s.fits
            h.room) b.bodies;
        walks = walks c b.tabled k words bits rights firsts s.narrow s.fits h.room b.bodies
            b.entry which b.chosen b.long h.zero;
        found = whole-found c b.tabled k words bits rights firsts s.narrow s.fits h.room
            b.bodies b.entry which b.chosen b.long h.zero;
      })

  -- the tables are small
  pub begun_fields : f.fields ≤ 131328
  begun_fields = fields_small b.tabled.outline b.tabled.mapped b.tabled.needs b.tabled.arranged

  pub begun-bits : total ≤ 120256
  begun-bits = total_small b.tabled.outline b.tabled.mapped b.tabled.needs b.tabled.arranged

-- authorizations are chosen
pub given-begun : {lines : List ℕ} {total n rules lasts bits : ℕ} {q : Query} {C : Chart} {p : Prepared}
    {base : Base} {x : Access} → WalkGiven lines total n rules lasts bits q C p base x →
    (entry which : List ℕ) (k : ℕ) →
    total ≤ length entry →
    Choice (chosen_for C q.own p q) lines total entry which k →
    Begun lines which (record { authorizations = k; rules = n; needed = rules }) lasts bits q C p base x
given-begun {lines} {total} {n} {rules} {lasts} {bits} {q} {C} {p} g entry which k room chosen = record {
  holder = g.holder;
  tabled = g.tabled;
  count = total;
  bodies = g.bodies;
  entry = entry;
  chosen = subst (λ (own : Access). Choice (chosen_for C own p q) lines total entry which k)
      g.tabled.asked.own chosen;
  long = room;
}

pub ground_ready : {lines : List ℕ} {total n rules lasts bits : ℕ} {q : Query} {C : Chart} {p : Prepared}
    {base : Base} {x : Access} → WalkGiven lines total n rules lasts bits q C p base x → (which : List ℕ) →
    total ≤ length which → choice.ChoiceReady lines total C.subjects C.objects C.width p.need
    which
ground_ready {p = p} g which room =
    choice_ready g.tabled.outline g.bodies p.need which g.tabled.mapped.size room

-- ---- by the slices that hold the tables

-- the walk with another frame
abbrev pub framed : WindowWalk → Frame → WindowWalk
framed w f = record {
  chosen = w.chosen;
  offset = w.offset;
  lasting = w.lasting;
  bits = w.bits;
  query = w.query;
  frame = f;
}

-- with k authorizations that were chosen
abbrev pub picking : WindowWalk → ℕ → WindowWalk
picking w k = record {
  chosen = record { authorizations = k; rules = w.chosen.rules; needed = w.chosen.needed };
  offset = w.offset;
  lasting = w.lasting;
  bits = w.bits;
  query = w.query;
  frame = w.frame;
}

module _ {records outline coordinates need numbers : List ℕ} {w : WindowWalk}
    (h : Sectioned records outline coordinates need numbers w) where
  -- in words of which none is set
  module _ (work : List ℕ) (room : broken_words w.bits ≤ length work)
      (clear : (i : ℕ) → get_or work i 0 ≡ 0) (g : Frame)
      (s : Sized w.frame (length work - broken_words w.bits) g) where
    abbrev words : ℕ
    words = words_for g.fields g.width

    words_are : words ≡ (w.frame.fields * 2 ^ s.width + 63) / 64
    words_are = ap (λ (f : Frame). words_for f.fields f.width) s.same

    words-few : words + broken_words w.bits ≤ length work
    words-few = omega (arith, words_are, s.fits, room)

    words_long : length (take words work) ≡ words
    words_long = length-take-le words work (omega (arith, words-few))

    fields_sized : Sized w.frame (length (take words work)) g
    fields_sized = record {
      width = s.width;
      narrow = s.narrow;
      fits = omega (arith, words_are, words_long);
      same = s.same;
    }

    bits-fresh : Fresh w.bits (drop words work)
    bits-fresh = record {
      room = omega (arith, words-few, length-drop words work);
      zero = λ j. get_or-drop words work j 0 ∙ clear (words + j);
    }

    pub begun-roomy : Roomy records outline coordinates need numbers work (framed w g)
    begun-roomy = record {
      body = h.bodied;
      held = record {
        outlined = h.outlined;
        placed = h.placed;
        numbered = omega (arith, h.numbered);
        roomy = omega (arith, words-few);
      };
    }

    pub begun-walk : {base : Base} {x : Access} → BegunIn records outline coordinates need numbers w base x →
        Starts records (which_of (length need) numbers) w.chosen w.lasting w.query
        (chart_in coordinates g) (prepared_for records outline coordinates need numbers (framed w g))
        (take words work) (drop words work) base x
    begun-walk b =
        let p = h.placed in
        let o = h.outlined in
        let right = part_long 256 256 coordinates (omega arith) in
        let first = part_long 280 64 outline (omega arith) in
        begun-starts b (omega (arith, right)) (omega (arith, first)) g (take words work) (drop words work)
        fields_sized bits-fresh

  -- authorizations are chosen, and the numbers come back with theirs behind those of pairs
  abbrev size : ℕ
  size = length need

  abbrev at : ℕ
  at = 2 * size

  abbrev entry : List ℕ
  entry = take (length numbers - at) (drop at numbers)

  long : at + (length numbers - at) ≤ length numbers
  long = omega (arith, h.numbered)

  entry_long : length entry ≡ length numbers - at
  entry_long = part_long at (length numbers - at) numbers long

  pub entry-room : w.chosen.authorizations ≤ length entry
  entry-room = omega (arith, entry_long, h.numbered)

  module _ {y : List ℕ} {k : ℕ} (c : Choice (chosen_for (chart_in coordinates w.frame) w.query.own
      (prepared_for records outline coordinates need numbers w) w.query) records
      w.chosen.authorizations entry y k) where
    abbrev after : List ℕ
    after = put_back numbers at (length numbers - at) y

    y_long : length y ≡ length numbers - at
    y_long = c.same_length ∙ entry_long

    numbers_long : length after ≡ length numbers
    numbers_long = back-length numbers at (length numbers - at) y long y_long

    number_same : numbered_of size after ≡ numbered_of size numbers
    number_same = same_front numbers after numbers_long size
        (λ i l. back-before numbers at (length numbers - at) y long y_long i (omega arith))

    listed_same : listed_of size after ≡ listed_of size numbers
    listed_same = same_part numbers after numbers_long size size
        (λ i l m. back-before numbers at (length numbers - at) y long y_long i (omega arith))

    which_own : which_of size after ≡ y
    which_own =
        drop_at (take at numbers) (y ++ drop (length numbers - at) (drop at numbers)) at
        (length-take-le at numbers (omega (arith, h.numbered)))
        ∙ ap (λ (l : List ℕ). y ++ l) (drop_of_length-le (drop at numbers) {i = length numbers - at}
        (omega (arith, length-drop at numbers)))
        ∙ append-nil y

    pub picked_sectioned : Sectioned records outline coordinates need after (picking w k)
    picked_sectioned = record {
      bodied = h.bodied;
      outlined = h.outlined;
      placed = h.placed;
      numbered = omega (arith, h.numbered, numbers_long, c.few);
    }

    pub picked-begun : {base : Base} {x : Access} →
        WalkGivenIn records outline coordinates need numbers w base x →
        BegunIn records outline coordinates need after (picking w k) base x
    picked-begun {base} {x} g =
        let tables : prepared_for records outline coordinates need numbers w
        ≡ prepared_for records outline coordinates need after w = λ i. record {
          body = drop w.offset records;
          left = left_of outline;
          feed = feed_of outline;
          sides = sides_of coordinates;
          right = rights_of coordinates;
          need = need;
          codes = sym listed_same i;
          number = sym number_same i;
          first = first_of outline;
          starts = starts_of outline;
          frame = w.frame;
        } in
        subst (λ (p : Prepared). Begun records (which_of size after) (picking w k).chosen w.lasting
        w.bits w.query (chart_in coordinates w.frame) p base x) tables
        (subst (λ (l : List ℕ). Begun records l (picking w k).chosen w.lasting w.bits w.query
        (chart_in coordinates w.frame) (prepared_for records outline coordinates need numbers w) base x)
        (sym which_own) (given-begun g entry y k entry-room c))

  -- where none is chosen and no rule that matters negates, nothing is found
  pub begun-nothing : {base : Base} {x : Access} → BegunIn records outline coordinates need numbers w base x →
      w.chosen.authorizations ≡ 0 →
      ((r : ℕ) → bit r w.chosen.needed ≡ true → negates (rule_at (drop w.offset records) r) ≡ false) →
      (old : List ℕ) → Finds w.query base x nothing old old
  begun-nothing b none positive old =
      let k = broken_words w.bits in
      let work : List ℕ = replicate (k + w.frame.fields) 0 in
      let long : length work ≡ k + w.frame.fields = length-replicate (k + w.frame.fields) 0 in
      let s = begun-walk work (omega (arith, long)) (zeros_at (k + w.frame.fields)) (sized w.frame 0)
      (record { width = 0; narrow = omega arith; fits = omega (arith, long); same = refl }) b in
      s.found nothing old old (nothing-found s.walks none positive old)
