-- How large the tables of a question can become. A rule that stars its subject and its object has a field for
-- each pair that is reached and each mode. But it names no subject and no object on its right, so that the
-- more such rules there are, the fewer pairs can be reached. All tables together have at most 131,328 fields
-- (`fields-few`), and at most 120,256 broken bits are kept (`bits-few`).
use mathlib.Core.Path.{◌≡◌, refl, ap, ◌∙◌}
use mathlib.Core.Bool.{Bool, true, false}
use mathlib.Core.List.{List}
use Prim.Native.Nat.{ℕ, zero, suc, ◌+◌, ◌*◌, ◌-◌, ◌≤◌, ◌<◌}
use native.Mathlib.Nat.{mul-le-mul, mul-le-mul_left}
use native.Mathlib.Omega.{arith}
use lib.Count.{ones}
use lib.Dec.{eqb, leb}
use lib.ListN.{get_or}
use Rattle.foundation.specs.Tests.{pick, cases, true-le, false-le}
use Rattle.foundation.specs.Lists.{all_mem}
use Rattle.foundation.specs.BitMasks.{bit}
use Rattle.model.specs.Stratification.{is_star}
use Rattle.encoding.specs.Format.{rule_at}
use Rattle.places.specs.declared.Grid.{Grid}
use Rattle.places.specs.declared.Region.{Region}
use Rattle.places.specs.Regions.{free, outer_size, size_of}
use Rattle.tables.specs.TableLayout.{region_at, room_of, whole_region}
use Rattle.outlines.specs.Coordinates.{WellFormed, Chart, Charted, named_in, subject_on_right, object_on_right}
use Rattle.outlines.specs.Outline.{RightSides, LeftSides}
use Rattle.outlines.proofs.StandingRules.{star_is}
use Rattle.queries.proofs.Reached.{numbers_below, in_below, many, subject_only, object_only, named}
use Rattle.queries.proofs.Reached.{names_none, kinds_all, pairs_most, Codes}

-- ---- numbers

square : (a b : ℕ) → 2 * (a * b) ≤ a * a + b * b
square a b = cases (leb a b)
    (λ e. let l = true-le a b e in more a b (b - a) (omega arith))
    (λ e. let l = false-le a b e in omega (arith, more b a (a - b) (omega arith)))
  where
    more : (x y d : ℕ) → y ≡ x + d → 2 * (x * y) ≤ x * x + y * y
    more x y d q = rw q (omega arith)

-- with m of 64 rules that name a subject or an object, all times twelve: so many pairs there can be, and so
-- much all rules and k tables of all places take for one mode
abbrev pairs_by : ℕ → ℕ
pairs_by m = 12 + 12 * m + 4 * (m * m)

abbrev room_by : ℕ → ℕ → ℕ
room_by k m = (k + (64 - m)) * pairs_by m + (12 * m + 7 * (m * m))

pairs_by_lem : (a b c p : ℕ) → p ≤ pairs_most a b c → 12 * p ≤ pairs_by (a + b + c)
pairs_by_lem a b c p h = omega (arith, square a b, square a c, square b c)

-- what the rules take for one mode that name the subject, the object, or both
named_by : (a b c h w : ℕ) → h ≤ suc (b + c) → w ≤ suc (a + c) →
    12 * (a * h + b * w + c) ≤ 12 * (a + b + c) + 7 * ((a + b + c) * (a + b + c))
named_by a b c h w p q = omega (
  arith,
  mul-le-mul_left a p,
  mul-le-mul_left b q,
  square a b,
  square a c,
  square b c,
)

room_by_lem : (k a b c u p h w : ℕ) → a + b + c + u ≤ 64 → p ≤ pairs_most a b c → h ≤ suc (b + c) →
    w ≤ suc (a + c) → 12 * ((k + u) * p + (a * h + b * w + c)) ≤ room_by k (a + b + c)
room_by_lem k a b c u p h w few x y z =
    let m : ℕ = a + b + c in
    let l : (k + u) * (12 * p) ≤ (k + (64 - m)) * pairs_by m =
    mul-le-mul {n₁ = k + u} {n₂ = k + (64 - m)} (omega arith) (pairs_by_lem a b c p x) in
    joined (k + u) p (a * h + b * w + c) ((k + (64 - m)) * pairs_by m) (12 * m + 7 * (m * m)) l
    (named_by a b c h w y z)
  where
    joined : (v p r x y : ℕ) → v * (12 * p) ≤ x → 12 * r ≤ y → 12 * (v * p + r) ≤ x + y
    joined v p r x y h l = omega arith

fields_top : (m : ℕ) → m ≤ 64 → room_by 2 m ≤ 12 * 16416
unfolding numbers_below
fields_top m h = true-le (room_by 2 m) (12 * 16416)
    (all_mem (λ k. leb (room_by 2 k) (12 * 16416)) (numbers_below 65) refl m (in_below 65 m (omega arith)))

bits_top : (m : ℕ) → m ≤ 64 → room_by 0 m ≤ 12 * 15032
unfolding numbers_below
bits_top m h = true-le (room_by 0 m) (12 * 15032)
    (all_mem (λ k. leb (room_by 0 k) (12 * 15032)) (numbers_below 65) refl m (in_below 65 m (omega arith)))

-- ---- sizes of regions

module _ (g : Grid) (modes : ones g.modes ≤ 8) where
  region_size : (b : Region) → size_of g b ≤ outer_size g b * 8
  unfolding size_of
  region_size b = mul-le-mul_left (outer_size g b)
      (cases (free b.mode) (λ m. rw m modes) (λ m. rw m (omega arith)))

  whole-size : size_of g whole_region ≤ g.pairs * 8
  whole-size = region_size whole_region

  -- the tables of rules
  module _ (S O : ℕ → Bool) (n : ℕ) (codes : List ℕ) (rules : ℕ)
      (subject : (c : ℕ) → c < n → free (get_or codes (4 * c + 1) 0) ≡ S c)
      (object : (c : ℕ) → c < n → free (get_or codes (4 * c) 0) ≡ O c) where
    -- what the first c rules take for one mode
    abbrev taken : ℕ → ℕ
    taken c = many (names_none S O) c * g.pairs
        + (many (subject_only S O) c * g.objects + many (object_only S O) c * g.subjects + many (named S O) c)

    -- rule c
    abbrev own : ℕ → ℕ
    own c = pick (S c) (pick (O c) g.pairs g.subjects) (pick (O c) g.objects 1)

    own_size : (c : ℕ) → c < n → pick (bit c rules) (size_of g (region_at codes c)) 0 ≤ own c * 8
    own_size c h = cases (bit c rules)
        (λ e. rw (e, ← subject c h, ← object c h) (region_size (region_at codes c)))
        (λ e. rw e (omega arith))

    taken_more : (c : ℕ) → taken (suc c) ≡ taken c + own c
    unfolding numbers_below
    taken_more c = cases (S c)
        (λ s. cases (O c) (λ o. rw (s, o) (omega arith)) (λ o. rw (s, o) (omega arith)))
        (λ s. cases (O c) (λ o. rw (s, o) (omega arith)) (λ o. rw (s, o) (omega arith)))

    room-taken : (c : ℕ) → c ≤ n → room_of g codes rules c ≤ taken c * 8
    unfolding room_of
    room-taken zero h = omega arith
    room-taken (suc c) h = summed (room_of g codes rules c)
        (pick (bit c rules) (size_of g (region_at codes c)) 0) (taken c) (own c) (taken (suc c))
        (room-taken c (omega arith)) (own_size c h) (taken_more c)
      where
        summed : (a b x y z : ℕ) → a ≤ x * 8 → b ≤ y * 8 → z ≡ x + y → a + b ≤ z * 8
        summed a b x y z p q e = omega arith

    -- behind the last rule there are none
    module _ (low : (r : ℕ) → bit r rules ≡ true → r < n) where
      room_all : (c : ℕ) → n ≤ c → room_of g codes rules c ≤ room_of g codes rules n
      unfolding room_of
      room_all zero h = let q : n ≡ 0 = omega arith in rw q (omega arith)
      room_all (suc c) h = cases (leb n c)
          (λ e. let l = true-le n c e in
          let none : bit c rules ≡ false =
          cases (bit c rules) (λ b. absurd (omega (arith, low c b))) (λ b. b) in
          rw none (omega (arith, room_all c l)))
          (λ e. let l = false-le n c e in
          let q : n ≡ suc c = omega arith in
          rw q (omega arith))

      room-few : n ≤ 64 → room_of g codes rules 64 ≤ taken n * 8
      room-few h = omega (arith, room_all 64 h, room-taken n (omega arith))

-- ---- the rules of a base

module _ (body : List ℕ) where
  -- rule r stars its subject, its object
  abbrev pub subject_star : ℕ → Bool
  subject_star r = is_star (subject_on_right (rule_at body r))

  abbrev pub object_star : ℕ → Bool
  object_star r = is_star (object_on_right (rule_at body r))

  -- how many of the first n name a subject only, an object only, both, neither
  abbrev pub subjects_only : ℕ → ℕ
  subjects_only = many (subject_only subject_star object_star)

  abbrev pub objects_only : ℕ → ℕ
  objects_only = many (object_only subject_star object_star)

  abbrev pub both_named : ℕ → ℕ
  both_named = many (named subject_star object_star)

  abbrev pub none_named : ℕ → ℕ
  none_named = many (names_none subject_star object_star)

  subjects-named : (n : ℕ) → named_in subject_on_right n body ≡ subjects_only n + both_named n
  unfolding named_in numbers_below
  subjects-named zero = refl
  subjects-named (suc n) =
      let i = subjects-named n in
      cases (subject_star n)
      (λ s. rw s (omega arith))
      (λ s. cases (object_star n) (λ o. rw (s, o) (omega arith)) (λ o. rw (s, o) (omega arith)))

  objects-named : (n : ℕ) → named_in object_on_right n body ≡ objects_only n + both_named n
  unfolding named_in numbers_below
  objects-named zero = refl
  objects-named (suc n) =
      let i = objects-named n in
      cases (subject_star n)
      (λ s. cases (object_star n) (λ o. rw (s, o) (omega arith)) (λ o. rw (s, o) (omega arith)))
      (λ s. cases (object_star n) (λ o. rw (s, o) (omega arith)) (λ o. rw (s, o) (omega arith)))

  -- the grid has the coordinates of a chart, and no more pairs than rules can lead to
  pub record Gridded (n : ℕ) (g : Grid) (C : Chart) : Type 0 where
    pub subjects : g.subjects ≤ C.width
    pub objects : g.objects ≤ C.height
    pub pairs : g.pairs ≤ pairs_most (subjects_only n) (objects_only n) (both_named n)
    pub modes : ones g.modes ≤ 8

module _ {n : ℕ} {body : List ℕ} (C : Chart) (well_formed : WellFormed n body) (t : Charted n body C) where
  -- the codes of right sides
  pub right_codes : (right : List ℕ) → RightSides C.subjects C.objects n body right →
      Codes n C.width C.height (subject_star body) (object_star body) right
  right_codes right codes = record {
    subject = λ c h. ap (λ (k : ℕ). eqb k 255) (codes c h).subject
        ∙ star_is t.subjects well_formed.few (rule_at body c).right.subject;
    object = λ c h. ap (λ (k : ℕ). eqb k 255) (codes c h).object
        ∙ star_is t.objects well_formed.few (rule_at body c).right.object;
    subject_low = λ c h e. let q : get_or right (4 * c + 1) 0 ≡ get_or C.subjects (rule_at body c).right.subject 0 = (codes c h).subject ∙ rw e in
        omega (arith, t.subjects.below (rule_at body c).right.subject);
    object_low = λ c h e. let q : get_or right (4 * c) 0 ≡ get_or C.objects (rule_at body c).right.object 0
        = (codes c h).object ∙ rw e in
        omega (arith, t.objects.below (rule_at body c).right.object);
  }

  few-kinds : subjects_only body n + objects_only body n + both_named body n + none_named body n ≤ 64
  few-kinds = omega (arith, kinds_all (subject_star body) (object_star body) n, well_formed.few)

  module _ {g : Grid} (w : Gridded body n g C) where
    wide : g.subjects ≤ suc (subjects_only body n + both_named body n)
    wide = omega (arith, w.subjects, t.subjects.fewer, subjects-named body n)

    high : g.objects ≤ suc (objects_only body n + both_named body n)
    high = omega (arith, w.objects, t.objects.fewer, objects-named body n)

    module _ (rules : ℕ) (low : (r : ℕ) → bit r rules ≡ true → r < n) where
      -- k tables of all places, and those of rules
      all_room : (k : ℕ) (codes : List ℕ) →
          ((c : ℕ) → c < n → free (get_or codes (4 * c + 1) 0) ≡ subject_star body c) →
          ((c : ℕ) → c < n → free (get_or codes (4 * c) 0) ≡ object_star body c) →
          12 * (k * size_of g whole_region + room_of g codes rules 64)
          ≤ 8 * room_by k (subjects_only body n + objects_only body n + both_named body n)
      all_room k codes s o =
          let a : ℕ = subjects_only body n in
          let b : ℕ = objects_only body n in
          let c : ℕ = both_named body n in
          let u : ℕ = none_named body n in
          joined k u g.pairs (a * g.objects + b * g.subjects + c) (size_of g whole_region)
          (room_of g codes rules 64) (room_by k (a + b + c)) (whole-size g w.modes)
          (room-few g w.modes (subject_star body) (object_star body) n codes rules s o low well_formed.few)
          (room_by_lem k a b c u g.pairs g.objects g.subjects few-kinds w.pairs high wide)
        where
          joined : (k u p r x y z : ℕ) → x ≤ p * 8 → y ≤ (u * p + r) * 8 → 12 * ((k + u) * p + r) ≤ z →
              12 * (k * x + y) ≤ 8 * z
          joined k u p r x y z h l m = omega (arith, mul-le-mul_left k h)

      -- the tables of the rules that look at some authorizations only, and the two of all places
      pub fields_few : (right : List ℕ) → RightSides C.subjects C.objects n body right →
          2 * size_of g whole_region + room_of g right rules 64 ≤ 131328
      fields_few right codes =
          let m : ℕ = subjects_only body n + objects_only body n + both_named body n in
          let s = right_codes right codes in
          omega (
            arith,
            all_room 2 right s.subject s.object,
            fields_top m (omega (arith, few-kinds)),
          )

      -- the broken bits
      pub bits-few : (sides : List ℕ) → LeftSides C.subjects C.objects n body sides →
          room_of g sides rules 64 ≤ 120256
      bits-few sides codes =
          let m : ℕ = subjects_only body n + objects_only body n + both_named body n in
          omega (
            arith,
            all_room 0 sides
                (λ c h. ap (λ (k : ℕ). eqb k 255) (codes c h).subject
                ∙ star_is t.subjects well_formed.few (rule_at body c).left.subject ∙ (well_formed.stars
                c h).0)
                (λ c h. ap (λ (k : ℕ). eqb k 255) (codes c h).object
                ∙ star_is t.objects well_formed.few (rule_at body c).left.object ∙ (well_formed.stars c
                h).1),
            bits_top m (omega (arith, few-kinds)),
          )
