-- Where a rule stands, by what was drawn: at places of accesses that it stands for (`stands-in`), and at all
-- of
-- these (`stands_at`).
use mathlib.Core.Path.{◌≡◌, sym, ap, ap₂, ◌∙◌}
use mathlib.Core.Bool.{Bool, true, false, ◌&&◌, ◌||◌}
use mathlib.Core.List.{List}
use Prim.Native.Nat.{ℕ, suc, ◌+◌, ◌*◌, ◌-◌, ◌≤◌, ◌<◌}
use native.Mathlib.Nat.{mul-le-mul_right}
use native.Mathlib.Omega.{arith}
use lib.Dec.{eqb, ltb}
use lib.ListN.{length, get_or}
use Rattle.foundation.specs.Tests.{cases, true_eq, false_eq, true-le, false-le, le-true}
use Rattle.foundation.specs.Tests.{and-true, and_intro, and_three}
use Rattle.foundation.specs.BitMasks.{bit}
use Rattle.model.specs.declared.Access.{Access}
use Rattle.model.specs.Base.{Base}
use Rattle.model.specs.Stratification.{is_star}
use Rattle.model.specs.Rules.{stands_on, stands_for}
use Rattle.model.proofs.SideFacts.{stands_eq, stands_same}
use Rattle.encoding.specs.Format.{rule_at}
use Rattle.places.specs.ReachedNumbers.{used, used_before}
use Rattle.places.proofs.NumberFacts.{used_before_more, used_before-apart}
use Rattle.places.specs.Regions.{free, In}
use Rattle.tables.specs.declared.Place.{Place}
use Rattle.tables.specs.TableLayout.{region_at}
use Rattle.outlines.specs.Coordinates.{Chart, subject_of, object_of, mode_of, known, pair_of}
use Rattle.outlines.proofs.CoordinateFacts.{known_is}
use Rattle.outlines.specs.LeftMasks.{on_subject}
use Rattle.outlines.proofs.StandingRules.{object-bit, subject-bit, mode_is}
use Rattle.outlines.specs.NeededAccesses.{needed}
use Rattle.outlines.proofs.NeededFacts.{needed-known, needed-bit, needed-both}
use Rattle.grounding.specs.RuleSteps.{StandsAt, place_at, AtPair}
use Rattle.grounding.specs.RuleTurns.{Prepared, pair_number_at, turn_in, range_for}
use Rattle.grounding.specs.Meaning.{place_of, StandsIn}
use Rattle.engine.specs.Drawn.{SamePowers, Drawn, mapping_of}
use Rattle.engine.proofs.AccessPlaces.{object_in, subject_in, coordinate-entry, narrow, access_at}
use Rattle.engine.proofs.AccessPlaces.{pair_used, number_is, number-below, pair_at_lem, pair_back}

module _ {holder : Base} {n : ℕ} {C : Chart} {asked : Access} {p : Prepared} {rules words bits : ℕ}
    (d : Drawn holder n C asked p rules words bits) where
  -- ---- the range of a rule

  -- the number of a pair, or how many there are
  pub number_at : (j : ℕ) → j ≤ length p.need →
      pair_number_at p.number j p.frame.grid.pairs ≡ used_before p.need j
  number_at j h = cases (ltb j (length p.number))
      (λ e. rw e (d.numbers.1 j (omega (arith, true-le (suc j) (length p.number) e, d.numbers.0))))
      (λ e. rw e (d.grid.2
      ∙ ap (used_before p.need) (omega (arith, false-le (suc j) (length p.number) e, d.numbers.0))))

  before_mono : (i j : ℕ) → i ≤ j → j ≤ length p.need → used_before p.need i ≤ used_before p.need j
  before_mono i j h k =
      let e : used_before p.need (i + (j - i)) ≡ used_before p.need j = ap (used_before p.need)
      (omega arith) in
      omega (arith, used_before_more p.need i (j - i) (omega arith))

  number-few : (j : ℕ) → pair_number_at p.number j p.frame.grid.pairs ≤ p.frame.grid.pairs
  number-few j = cases (ltb j (length p.number))
      (λ e. let h = true-le (suc j) (length p.number) e in
      let n = d.numbers.0 in
      rw e (omega (
        arith,
        d.numbers.1 j (omega arith),
        before_mono j (length p.need) (omega arith) (omega arith),
        d.grid.2,
      )))
      (λ e. rw e (omega arith))

  -- a used pair between two others has its number between theirs
  number-between : (i j k : ℕ) → i ≤ j → j < k → k ≤ length p.need → used (get_or p.need j 0) ≡ true →
      (pair_number_at p.number i p.frame.grid.pairs ≤ used_before p.need j)
      × (used_before p.need j < pair_number_at p.number k p.frame.grid.pairs)
  number-between i j k h l b e = (
    rw (number_at i (omega arith)) (before_mono i j h (omega arith)),
    rw (number_at k b) (used_before-apart p.need j k l b e),
  )

  pub range-few : (active : List ℕ) (r : ℕ) → (range_for p active r).to ≤ p.frame.grid.pairs
  range-few active r =
      let row : ℕ = get_or p.sides (4 * r) 0 * p.frame.grid.subjects in
      cases (free (get_or p.sides (4 * r) 0))
      (λ e. rw e (omega arith))
      (λ e. cases (free (get_or p.sides (4 * r + 1) 0))
      (λ f. rw (e, f) (number-few (row + p.frame.grid.subjects)))
      (λ f. rw (e, f) (number-few (row + get_or p.sides (4 * r + 1) 0 + 1))))

  -- ---- where a rule stands

  -- a rule that matters is one of the rules
  pub rule_low : (r : ℕ) → bit r rules ≡ true → r < n
  rule_low r e =
      let w = d.needs.only r e in
      let a = pair_at_lem d w.0 w.1 in
      let x = access_at d (object_in p.codes w.0) (subject_in p.codes w.0) 0 a.object
      a.subject in
      let b : bit r (get_or p.left (object_of C asked x.access) 0) ≡ true = rw x.object w.2 in
      let q = sym (object-bit d.well_formed C d.charted p.sides d.lefts holder asked d.outlined
      p.left d.masks d.own x.access (omega (arith, x.object, a.object)) r) ∙ b in
      true-le (suc r) n (and-true (ltb r n) (stands_on holder (rule_at p.body r) x.access.object) q).0

  -- a rule stands for a known access exactly if the masks of its object and its subject have the rule, and
  -- the rule has its mode
  module _ (r : ℕ) (h : r < n) where
    object_mask : (x : Access) → object_of C asked x < C.height →
        bit r (get_or p.left (object_of C asked x) 0) ≡ stands_on holder (rule_at p.body r) x.object
    object_mask x k =
        let t : ltb r n ≡ true = le-true (suc r) n h in
        object-bit d.well_formed C d.charted p.sides d.lefts holder asked d.outlined p.left
        d.masks d.own x k r ∙ rw t

    subject_mask : (x : Access) → subject_of C asked x < C.width →
        bit r (get_or p.left (65 + subject_of C asked x) 0) ≡ on_subject x.subject (rule_at p.body r)
    subject_mask x k =
        let t : ltb r n ≡ true = le-true (suc r) n h in
        subject-bit d.well_formed C d.charted p.sides d.lefts holder asked d.outlined p.left
        d.masks d.own x k r ∙ rw t

    mode_mask : (x : Access) → 1 ≤ x.mode → x.mode ≤ 8 →
        free (get_or p.sides (4 * r + 2) 0) || eqb (get_or p.sides (4 * r + 2) 0) (mode_of x)
        ≡ is_star (rule_at p.body r).left.mode || eqb (rule_at p.body r).left.mode x.mode
    mode_mask x a b =
        ap (λ (k : ℕ). eqb k 255 || eqb k (mode_of x)) (d.lefts r h).mode
        ∙ mode_is (rule_at p.body r).left.mode x.mode (d.well_formed.left r h).mode a b

    pub stands-there : (base : Base) → SamePowers base holder → (x : Access) → known C asked x ≡ true →
        stands_for base (rule_at p.body r) x
        ≡ bit r (get_or p.left (65 + subject_of C asked x) 0)
        && (free (get_or p.sides (4 * r + 2) 0) || eqb (get_or p.sides (4 * r + 2) 0) (mode_of x))
        && bit r (get_or p.left (object_of C asked x) 0)
    stands-there base powers x k =
        let w = (known_is C asked x).0 k in
        stands_same base holder (rule_at p.body r) x (powers x.object (rule_at p.body r).author)
        ∙ stands_eq holder (rule_at p.body r) x
        ∙ sym (ap₂ (λ (a b : Bool). a && b)
        (ap₂ (λ (a b : Bool). a && b) (subject_mask x w.1) (mode_mask x w.2 w.3))
        (object_mask x w.0))

    module _ (base : Base) (powers : SamePowers base holder) (active : List ℕ) where
      abbrev pub StandsHere : ℕ → ℕ → Type 0
      StandsHere = StandsAt (turn_in p active r) p.frame p.left p.need p.codes

      abbrev pub place_here : ℕ → ℕ → Place
      place_here = place_at (turn_in p active r) p.frame p.left p.need p.codes

      -- where it stands there is an access that it stands for
      pub stands_in : (i m : ℕ) → i < p.frame.grid.pairs → StandsHere i m →
          StandsIn (mapping_of base C asked p) (rule_at p.body r) (place_here i m)
      stands_in i m l s =
          let a = pair_at_lem d i l in
          let y = access_at d (object_in p.codes i) (subject_in p.codes i) m a.object a.subject in
          let x = y.access in
          let need : ℕ = get_or p.need
          (object_in p.codes i * p.frame.grid.subjects + subject_in p.codes i) 0 in
          let code : ℕ = get_or p.sides (4 * r + 2) 0 in
          let w = (and_three (ltb m 8) (bit m need && bit (8 + m) need) (free code || eqb code m)).0
          s.mode in
          let low = true-le (suc m) 8 w.0 in
          let v = and-true (bit m need) (bit (8 + m) need) w.1 in
          let mode : mode_of x ≡ m = omega (arith, y.mode) in
          let pair : pair_of C asked x ≡ object_in p.codes i * C.width + subject_in p.codes i =
          rw (y.object, y.subject) in
          let here : need ≡ get_or p.need (pair_of C asked x) 0 = rw (pair, d.grid.0) in
          let k = (known_is C asked x).1 (
            omega (arith, y.object, a.object),
            omega (arith, y.subject, a.subject),
            omega (arith, y.mode),
            omega (arith, y.mode),
          ) in
          let number : i ≡ (place_of (mapping_of base C asked p) x).pair =
          sym (number_is d base x k ∙ ap (used_before p.need) (pair ∙ a.pair) ∙ a.number) in
          record {
            access = x;
            matters = needed-both C asked p.need x k (rw (mode, sym here) v.0)
                (rw (mode, sym here) v.1);
            stands = stands-there base powers x k
                ∙ (and_three (bit r (get_or p.left (65 + subject_of C asked x) 0))
                (free code || eqb code (mode_of x)) (bit r (get_or p.left (object_of C asked x) 0))).1
                (rw y.subject s.subject, rw mode w.2, rw y.object s.object);
            place = λ j. record {
              pair = number j;
              point = record { subject = sym y.subject j; mode = sym mode j; object = sym y.object j };
            };
          }

      pub stands_for_lem : (q : Place) → AtPair (turn_in p active r) p.frame p.left p.need p.codes
          (range_for p active r).from (range_for p active r).to q →
          StandsIn (mapping_of base C asked p) (rule_at p.body r) q
      stands_for_lem q w =
          let s = stands_in w.0 w.1 (omega (arith, w.3, range-few active r)) w.4 in
          record { access = s.access; matters = s.matters; stands = s.stands; place = w.5 ∙ s.place }

      -- and where it stands for an access it stands at its place, which its range has
      module _ (x : Access) (e : needed C asked p.need x ≡ true)
          (s : stands_for base (rule_at p.body r) x ≡ true) where
        side : (on_subject x.subject (rule_at p.body r) ≡ true)
            × (stands_on base (rule_at p.body r) x.object ≡ true)
        side =
            let q = rule_at p.body r in
            let m = q.left.mode in
            let w = (and_three (on_subject x.subject q) (is_star m || eqb m x.mode)
            (stands_on base q x.object)).0 (sym (stands_eq base q x) ∙ s) in
            (w.0, w.2)

        object_code_lem : free (get_or p.sides (4 * r) 0) ≡ false →
            get_or p.sides (4 * r) 0 ≡ object_of C asked x
        object_code_lem named =
            let w = (known_is C asked x).0 (needed-known C asked p.need x e) in
            let v = (rule_at p.body r).left.object in
            let c = coordinate-entry C.objects asked.object x.object
            (omega (arith, w.0, (narrow d).2)) in
            cases (is_star v)
            (λ y. let q : get_or p.sides (4 * r) 0 ≡ 255 = (d.lefts r h).object ∙ rw y in
            absurd (false_eq (get_or p.sides (4 * r) 0) 255 named q))
            (λ y. (d.lefts r h).object ∙ rw y
            (ap (λ (k : ℕ). get_or C.objects k 0) (true_eq v x.object (rw y at side.1)) ∙ sym c))

        subject_code_lem : free (get_or p.sides (4 * r + 1) 0) ≡ false →
            get_or p.sides (4 * r + 1) 0 ≡ subject_of C asked x
        subject_code_lem named =
            let w = (known_is C asked x).0 (needed-known C asked p.need x e) in
            let v = (rule_at p.body r).left.subject in
            let c = coordinate-entry C.subjects asked.subject x.subject
            (omega (arith, w.1, (narrow d).0)) in
            cases (is_star v)
            (λ y. let q : get_or p.sides (4 * r + 1) 0 ≡ 255 = (d.lefts r h).subject ∙ rw y in
            absurd (false_eq (get_or p.sides (4 * r + 1) 0) 255 named q))
            (λ y. (d.lefts r h).subject ∙ rw y
            (ap (λ (k : ℕ). get_or C.subjects k 0) (true_eq v x.subject (rw y at side.0)) ∙ sym c))

        -- the place lies in the region of its left side
        pub left_in : In (region_at p.sides r) ((mapping_of base C asked p).point x)
        left_in =
            let m : ℕ = mode_of x in
            let code : ℕ = get_or p.sides (4 * r + 2) 0 in
            let v = (and_three (bit r (get_or p.left (65 + subject_of C asked x) 0)) (free code || eqb code m)
            (bit r (get_or p.left (object_of C asked x) 0))).0
            (sym (stands-there base powers x (needed-known C asked p.need x e)) ∙ s) in
            record {
              subject = λ f. sym (subject_code_lem f);
              object = λ f. sym (object_code_lem f);
              mode = λ f. sym (true_eq code m (ap (λ (b : Bool). b || eqb code m) (sym f) ∙ v.1));
            }

        in_range : ((range_for p active r).from ≤ used_before p.need (pair_of C asked x))
            × (used_before p.need (pair_of C asked x) < (range_for p active r).to)
        in_range =
            let w = (known_is C asked x).0 (needed-known C asked p.need x e) in
            let u = pair_used d x e in
            let b : ℕ = get_or p.sides (4 * r) 0 in
            let t : ℕ = get_or p.sides (4 * r + 1) 0 in
            let g : ℕ = p.frame.grid.subjects in
            let q : suc (object_of C asked x) * C.width ≤ C.height * C.width =
            mul-le-mul_right C.width w.0 in
            cases (free b)
            (λ starred. rw starred (omega arith, number-below d x e))
            (λ named.
            let row : b * g ≡ object_of C asked x * C.width = rw (object_code_lem named, d.grid.0) in
            cases (free t)
            (λ f. rw (named, f) (number-between (b * g) (pair_of C asked x) (b * g + g) (omega arith)
            (omega (arith, d.grid.0, w.1)) (omega (arith, d.grid.0, d.size)) u))
            (λ f. let c = subject_code_lem f in
            rw (named, f) (number-between (b * g + t) (pair_of C asked x) (b * g + t + 1) (omega arith)
            (omega arith) (omega (arith, w.1, d.size)) u)))

        pub stands_at : AtPair (turn_in p active r) p.frame p.left p.need p.codes
            (range_for p active r).from (range_for p active r).to (place_of (mapping_of base C asked p) x)
        stands_at =
            let k = needed-known C asked p.need x e in
            let i : ℕ = used_before p.need (pair_of C asked x) in
            let m : ℕ = mode_of x in
            let b = pair_back d x e in
            let w = (known_is C asked x).0 k in
            let code : ℕ = get_or p.sides (4 * r + 2) 0 in
            let v = (and_three (bit r (get_or p.left (65 + subject_of C asked x) 0)) (free code || eqb code m)
            (bit r (get_or p.left (object_of C asked x) 0))).0 (sym (stands-there base powers x k) ∙ s) in
            let here : get_or p.need
            (object_in p.codes i * p.frame.grid.subjects + subject_in p.codes i) 0
            ≡ get_or p.need (pair_of C asked x) 0 = rw (b.0, b.1, d.grid.0) in
            let need : ℕ = get_or p.need (pair_of C asked x) 0 in
            let zero-sign : bit m need ≡ true =
            ap (λ (j : ℕ). bit j need) (omega arith) ∙ needed-bit C asked p.need x e false in
            let one-sign : bit (8 + m) need ≡ true =
            ap (λ (j : ℕ). bit j need) (omega arith) ∙ needed-bit C asked p.need x e true in
            let signs = and_intro (bit m need) (bit (8 + m) need) zero-sign one-sign in
            let number = number_is d base x k in (
              i,
              m,
              in_range.0,
              in_range.1,
              record {
                object = rw b.0 v.2;
                subject = rw b.1 v.0;
                mode = rw here ((and_three (ltb m 8) (bit m need && bit (8 + m) need) (free code || eqb code m)
                    ).1 (le-true (suc m) 8 (omega arith), signs, v.1));
              },
              λ j. record {
                pair = number j;
                point = record { subject = sym b.1 j; mode = m; object = sym b.0 j };
              },
            )
