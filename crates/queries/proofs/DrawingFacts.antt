-- What comes of the steps in which the tables of a question are made: the outline is small and its net well
-- formed, the rules that matter are rules, the tables are small (`fields-small`, `total-small`). So they are
-- drawn, whatever the width of the fields (`drawn`).
use mathlib.Core.Path.{◌≡◌, refl, sym, ap, ◌∙◌, subst}
use mathlib.Core.Bool.{Bool, true, ◌&&◌}
use mathlib.Core.List.{List}
use Prim.Native.Nat.{ℕ, suc, ◌+◌, ◌*◌, ◌/◌, ◌%◌, ◌^◌, ◌≤◌, ◌<◌}
use native.Mathlib.Nat.{mod-lt, div-add-mod', div-lt_iff_lt-mul, mul-le-mul}
use native.Mathlib.Omega.{arith}
use lib.Bits.{bit_and}
use lib.Count.{ones-le}
use lib.Dec.{eqb, ltb}
use lib.ListN.{length, get_or}
use Rattle.foundation.specs.Tests.{cases, true_eq, eq_true, false_eq, le-true, true-le, and-true}
use Rattle.foundation.specs.Tests.{and-false, and_yes}
use Rattle.foundation.specs.BitMasks.{bit}
use Rattle.foundation.specs.BitLaws.{bit_and_lem}
use Rattle.model.specs.declared.Access.{Access}
use Rattle.model.specs.Base.{Base}
use Rattle.model.specs.Rules.{stands_on}
use Rattle.encoding.specs.Format.{rule_at}
use Rattle.model.specs.Stratification.{lasting}
use Rattle.reach.specs.Net.{Formed, Only, standing}
use Rattle.places.specs.declared.Grid.{Grid}
use Rattle.places.specs.ReachedNumbers.{code_of}
use Rattle.places.specs.Needs.{both_signs}
use Rattle.places.proofs.NumberFacts.{used_before-le, used_before-onto}
use Rattle.places.proofs.NeedBits.{both_bits}
use Rattle.tables.specs.declared.Frame.{Frame}
use Rattle.tables.specs.TableLayout.{SmallGrid}
use Rattle.masks.specs.RuleMasks.{PairCode, RulesIn, Needed}
use Rattle.outlines.specs.Coordinates.{Chart, Charted, coordinate}
use Rattle.outlines.specs.Coordinates.{known, mode_of, pair_of}
use Rattle.outlines.proofs.CoordinateFacts.{known_is}
use Rattle.outlines.proofs.StandingRules.{rule-bit}
use Rattle.outlines.proofs.RightAccesses.{formed}
use Rattle.outlines.specs.Feed.{is_choosy}
use Rattle.outlines.specs.NeededAccesses.{needed}
use Rattle.outlines.proofs.NeededFacts.{needed-both}
use Rattle.grounding.specs.RuleTurns.{prepared}
use Rattle.engine.specs.Drawn.{Drawn}
use Rattle.queries.specs.Drawing.{own_in, own_of, Outline, Mapped, Arranged, sized}
use Rattle.queries.proofs.Reached.{pairs-within}
use Rattle.queries.proofs.Bounds.{subject_star, object_star, Gridded, right_codes, fields_few, bits-few}

-- ---- the asked access

-- as it is named, the asked access has no coordinate in the tables
own_unlisted : (U : List ℕ) (v : ℕ) → get_or U 0 0 ≡ 0 → get_or U (own_in U v) 0 ≡ 0
own_unlisted U v star = cases (eqb (get_or U v 0) 0)
    (λ e. rw e (true_eq (get_or U v 0) 0 e))
    (λ e. rw e star)

-- by that name it has the coordinate of its entry
pub own_coordinate : (U : List ℕ) (v : ℕ) → coordinate U (own_in U v) v ≡ get_or U v 0
unfolding coordinate
own_coordinate U v = cases (eqb (get_or U v 0) 0)
    (λ e. rw (e, eq_true v v refl) (sym (true_eq (get_or U v 0) 0 e)))
    (λ e. rw e)

-- ---- the outline of the rules

-- the bounds of what is charted
pub chart_small : {n : ℕ} {body : List ℕ} (C : Chart) → n ≤ 64 → Charted n body C →
    (C.width ≤ 65) × (0 < C.width) × (C.height ≤ 65) × (C.height * C.width ≤ 4225)
chart_small C few t =
    let w : C.width ≤ 65 = omega (arith, t.subjects.few) in
    let h : C.height ≤ 65 = omega (arith, t.objects.few) in
    (w, t.subjects.some, h, mul-le-mul h w)

module _ {holder : Base} {n : ℕ} {C : Chart} {x : Access} {body left feed sides right : List ℕ} {choosy : ℕ}
    (o : Outline holder n C x body left feed sides right choosy) where
  -- the net is well formed
  pub net_formed : Formed right C.width (C.height * C.width)
  net_formed = formed o.rules.well_formed C o.rules.charted right o.rules.rights o.rules.behind

  -- the asked access has its place
  pub own_known : 1 ≤ x.mode → x.mode ≤ 8 → known C (own_of C x) x ≡ true
  own_known l h = (known_is C (own_of C x) x).1 (
    rw (own_coordinate C.objects x.object) (o.rules.charted.objects.below x.object),
    rw (own_coordinate C.subjects x.subject) (o.rules.charted.subjects.below x.subject),
    l,
    h,
  )

  pub own_pair : pair_of C (own_of C x) x
      ≡ get_or C.objects x.object 0 * C.width + get_or C.subjects x.subject 0
  own_pair = rw (own_coordinate C.objects x.object, own_coordinate C.subjects x.subject)

  -- the rules of a mask of an object are rules
  pub object_low : (c r : ℕ) → c < C.height → bit r (get_or left c 0) ≡ true → r < n
  object_low c r h e = cases (eqb c 0)
      (λ z. let q : bit r (get_or left 0 0) ≡ true = ap (λ (i : ℕ). bit r (get_or left i 0)) (sym (true_eq c 0
      z)) ∙ e in
      let own = (own_of C x).object in
      let w : ltb r n && stands_on holder (rule_at body r) own ≡ true =
      sym (rule-bit n body (λ z. stands_on holder z own) r) ∙ ap (bit r) (sym o.owned.object) ∙ q in
      true-le (suc r) n (and-true (ltb r n) (stands_on holder (rule_at body r) own) w).0)
      (λ z. let s = chart_small C o.rules.well_formed.few o.rules.charted in
      let nz = false_eq c 0 z in
      let v = o.rules.charted.objects.onto c (omega arith) h in
      let w : ltb r n && stands_on holder (rule_at body r) v.0 ≡ true =
      sym (o.rules.masks.object v.0 r (omega (arith, v.1)))
      ∙ ap (λ (i : ℕ). bit r (get_or o.outlined i 0)) v.1
      ∙ ap (bit r) (sym (o.owned.other c nz (λ y. omega (arith, s.2)))) ∙ e in
      true-le (suc r) n (and-true (ltb r n) (stands_on holder (rule_at body r) v.0) w).0)

  -- so are those that stand at a pair
  pub standing_low : (c s k r : ℕ) → c < C.height → bit r (standing left c s k) ≡ true → r < n
  unfolding standing
  standing_low c s k r h e =
      let two : ℕ = bit_and (get_or left c 0) (get_or left (65 + s) 0) in
      let a = and-true (bit r two) (bit r (get_or left (130 + k) 0))
      (sym (bit_and_lem two (get_or left (130 + k) 0) r) ∙ e) in
      let b = and-true (bit r (get_or left c 0)) (bit r (get_or left (65 + s) 0))
      (sym (bit_and_lem (get_or left c 0) (get_or left (65 + s) 0) r) ∙ a.0) in
      object_low c r h b.0

-- ---- the places

module _ {holder : Base} {n : ℕ} {C : Chart} {x : Access} {body left feed sides right : List ℕ} {choosy : ℕ}
    (o : Outline holder n C x body left feed sides right choosy) {need number codes : List ℕ} {g : Grid}
    (m : Mapped C left right need number codes g) where
  pub map_small : SmallGrid g
  map_small =
      let s = chart_small C o.rules.well_formed.few o.rules.charted in
      record {
        subjects = omega (arith, s.0, m.grid.0);
        objects = omega (arith, s.2, m.grid.1);
        pairs = omega (arith, m.grid.2, used_before-le need (length need), m.size, s.3);
        modes = ones-le 8 g.modes (omega (arith, m.modes.0));
      }

  pub map_gridded : Gridded body n g C
  map_gridded = record {
    subjects = omega (arith, m.grid.0);
    objects = omega (arith, m.grid.1);
    pairs =
        let some = o.rules.charted.subjects.some in
        let w : ℕ = C.width in
        let p : ℕ = m.only.0 in
        let h : p / w < C.height = (div-lt_iff_lt-mul some).1 (omega (arith, m.only.1, m.size)) in
        let asked = subst (λ (j : ℕ). Only (record { left = left; right = right; subjects = w }) j need)
        (sym (div-add-mod' p w)) m.only.2 in
        omega (
          arith,
          m.grid.2,
          pairs-within n w C.height (subject_star body) (object_star body) right
              (right_codes C o.rules.well_formed o.rules.charted right o.rules.rights) (p / w) (p
              % w)
              h (mod-lt p some) left (standing_low o) need asked,
        );
    modes = ones-le 8 g.modes (omega (arith, m.modes.0));
  }

  -- the codes of the pairs
  object-below : (i : ℕ) → i < g.pairs →
      (get_or codes i 0 / 256 < C.height) × PairCode C.width (length need) (get_or codes i 0)
  unfolding code_of
  object-below i h =
      let s = chart_small C o.rules.well_formed.few o.rules.charted in
      let w = used_before-onto need i (omega (arith, m.grid.2)) in
      let j = w.at in
      let l = mod-lt j s.1 in
      let c : get_or codes i 0 ≡ 256 * (j / C.width) + j % C.width =
      ap (λ (k : ℕ). get_or codes k 0) (sym w.number) ∙ m.codes_are.1 j w.inside w.needed in
      let a : get_or codes i 0 / 256 ≡ j / C.width = ap (λ (k : ℕ). k / 256) c ∙ omega (arith, s.0) in
      let b : get_or codes i 0 % 256 ≡ j % C.width = ap (λ (k : ℕ). k % 256) c ∙ omega (arith, s.0) in
      let d : j / C.width < C.height =
      (div-lt_iff_lt-mul s.1).1 (omega (arith, w.inside, m.size)) in (
        omega arith,
        record {
          object = omega (arith, s.2);
          subject = omega (arith, s.0);
          inside = rw (a, b) (rw (div-add-mod' j C.width) w.inside);
        },
      )

  pub code_pair : (i : ℕ) → i < g.pairs → PairCode C.width (length need) (get_or codes i 0)
  code_pair i h = (object-below i h).1

  -- the rules that matter are rules
  module _ {rules : ℕ} (needs : Needed left need codes C.width g.pairs rules) where
    pub needed_low : (r : ℕ) → bit r rules ≡ true → r < n
    needed_low r e =
        let w = needs.only r e in
        object_low o (get_or codes w.0 0 / 256) r (object-below w.0 w.1).0 w.2

    pub needed_in_lem : RulesIn rules body
    needed_in_lem r e =
        let l = needed_low r e in
        (omega (arith, o.rules.well_formed.few), omega (arith, o.rules.well_formed.there))

  -- the asked access matters
  pub asked-needed : 1 ≤ x.mode → x.mode ≤ 8 →
      ((b : ℕ) → bit b (both_signs (mode_of x)) ≡ true → bit b (get_or need (pair_of C (own_of C x) x) 0) ≡ true) →
      needed C (own_of C x) need x ≡ true
  asked-needed l h s =
      let w = both_bits (mode_of x) in
      needed-both C (own_of C x) need x (own_known o l h) (s (mode_of x) w.0) (s (8 + mode_of x) w.1)

-- ---- the tables

module _ {holder : Base} {n : ℕ} {C : Chart} {x : Access} {body left feed sides right : List ℕ} {choosy : ℕ}
    (o : Outline holder n C x body left feed sides right choosy)
    {need number codes first starts : List ℕ} {f : Frame}
    (m : Mapped C left right need number codes f.grid) {rules lasts total : ℕ}
    (needs : Needed left need codes C.width f.grid.pairs rules)
    (a : Arranged n body sides right first starts choosy rules lasts total f) where
  choosy_bits : (c : ℕ) → bit c f.choosy ≡ bit c rules && is_choosy (rule_at body c)
  choosy_bits c =
      let e : bit c f.choosy ≡ (ltb c n && is_choosy (rule_at body c)) && bit c rules =
      ap (bit c) a.chosen ∙ bit_and_lem choosy rules c
      ∙ ap (λ (b : Bool). b && bit c rules) (ap (bit c) o.rules.choosy_is ∙ rule-bit n body is_choosy c) in
      cases (bit c rules)
      (λ y. let l : ltb c n ≡ true = le-true (suc c) n (needed_low o m needs c y) in
      e ∙ rw (y, l) (and_yes (is_choosy (rule_at body c))))
      (λ y. e ∙ rw y (and-false (ltb c n && is_choosy (rule_at body c))))

  -- they are small
  pub fields_small : f.fields ≤ 131328
  fields_small = omega (
    arith,
    a.arranged.few,
    fields_few C o.rules.well_formed o.rules.charted (map_gridded o m) f.choosy
        (λ r e. needed_low o m needs r (and-true (bit r rules) (is_choosy (rule_at body r))
        (sym (choosy_bits r) ∙ e)).0) right o.rules.rights,
  )

  pub total_small : total ≤ 120256
  total_small = omega (
    arith,
    a.total_is,
    bits-few C o.rules.well_formed o.rules.charted (map_gridded o m) lasts
        (λ r e. needed_low o m needs r (and-true (bit r rules) (lasting (rule_at body r).operator)
        (sym (a.lasts_is r) ∙ e)).0) sides o.rules.lefts,
  )

  -- so they are drawn
  pub drawn : 256 ≤ length right → 64 ≤ length first → (k words bits : ℕ) → k ≤ 6 →
      f.fields * 2 ^ k ≤ 64 * words → total ≤ 64 * bits → Drawn holder n C (own_of C x)
      (prepared body left feed sides right need codes number first starts (sized f k)) rules words bits
  drawn rights firsts k words bits narrow fits room = record {
    well_formed = o.rules.well_formed;
    charted = o.rules.charted;
    subjects = record { all = o.rules.charted.subjects.onto; star = o.rules.charted.subjects.star };
    objects = record { all = o.rules.charted.objects.onto; star = o.rules.charted.objects.star };
    unlisted = (
      own_unlisted C.subjects x.subject o.rules.charted.subjects.star,
      own_unlisted C.objects x.object o.rules.charted.objects.star,
    );
    rights = o.rules.rights;
    lefts = o.rules.lefts;
    outlined = o.outlined;
    masks = o.rules.masks;
    own = o.owned;
    feed = (
      choosy,
      o.rules.fed,
      λ c h. ap (bit c) o.rules.choosy_is ∙ rule-bit n body is_choosy c
          ∙ ap (λ (b : Bool). b && is_choosy (rule_at body c)) (le-true (suc c) n h),
    );
    closed = m.closed;
    size = m.size;
    numbers = m.numbers;
    codes = m.codes_are;
    grid = m.grid;
    modes = m.modes;
    needs = needs;
    choosy = choosy_bits;
    tabled = a.arranged.some;
    shared = a.arranged.shared;
    laid = record {
      laid = a.arranged.laid;
      narrow = narrow;
      fits = fits;
      rights = rights;
      firsts = firsts;
    };
    fields = omega (arith, fields_small);
    lasts = lasts;
    lasts_is = a.lasts_is;
    total = total;
    starts = a.starts_laid;
    room = (room, omega (arith, total_small));
  }
