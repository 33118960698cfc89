-- The places of what was drawn: each access that is needed has its own (`mapping-placed`), and the number of
-- a pair leads back to its object and its subject (`pair-at`, `pair-back`).
use mathlib.Core.Path.{◌≡◌, refl, sym, ap, ◌∙◌}
use mathlib.Core.Logic.{⊎_elim}
use mathlib.Core.Bool.{true, false}
use mathlib.Core.List.{List}
use Prim.Native.Nat.{ℕ, suc, ◌+◌, ◌*◌, ◌/◌, ◌%◌, ◌≤◌, ◌<◌}
use native.Mathlib.Nat.{mod-lt, div-add-mod', div-lt_iff_lt-mul, mul-le-mul, mul-le-mul_right}
use native.Mathlib.Omega.{arith}
use lib.Count.{ones-le}
use lib.Dec.{eqb, ltb}
use lib.ListN.{length, get_or}
use Rattle.foundation.specs.Tests.{cases, true_eq, eq_true, false_eq, true-le, false-le, or_intro_left}
use Rattle.foundation.specs.Quotients.{parted}
use Rattle.foundation.specs.BitMasks.{bit, none_set}
use Rattle.model.specs.declared.Access.{Access}
use Rattle.model.specs.Base.{Base}
use Rattle.places.specs.ReachedNumbers.{used, used_before}
use Rattle.places.proofs.NumberFacts.{used_before-le, used_before-apart, used_before-onto}
use Rattle.places.specs.ReachedNumbers.{code_of}
use Rattle.places.specs.Regions.{Within}
use Rattle.tables.specs.TableLayout.{SmallGrid}
use Rattle.masks.specs.RuleMasks.{PairCode}
use Rattle.outlines.specs.Coordinates.{Chart, coordinate, subject_of, object_of, mode_of}
use Rattle.outlines.specs.Coordinates.{known, pair_of}
use Rattle.outlines.proofs.CoordinateFacts.{known_is, known_one, coordinate-listed, coordinate_cases}
use Rattle.outlines.specs.NeededAccesses.{needed}
use Rattle.outlines.proofs.NeededFacts.{needed-known, needed-bit}
use Rattle.grounding.specs.RuleTurns.{Prepared}
use Rattle.grounding.specs.Meaning.{Mapping, place_of, Placed}
use Rattle.engine.specs.Drawn.{Onto, Drawn, mapping_of}

-- ---- numbers of pairs

-- the number of a used pair is below their count
used_before-below : (l : List ℕ) (i : ℕ) → i < length l → used (get_or l i 0) ≡ true →
    used_before l i < used_before l (length l)
used_before-below l i h e = used_before-apart l i (length l) h (omega arith) e

-- different ones have different numbers
used_before_same : (l : List ℕ) (i j : ℕ) → i < length l → j < length l → used (get_or l i 0) ≡ true →
    used (get_or l j 0) ≡ true → used_before l i ≡ used_before l j → i ≡ j
used_before_same l i j h k e f q = cases (ltb i j)
    (λ y. absurd (omega (arith, used_before-apart l i j (true-le (suc i) j y) (omega arith) e)))
    (λ y. cases (ltb j i)
    (λ z. absurd (omega (arith, used_before-apart l j i (true-le (suc j) i z) (omega arith) f)))
    (λ z. omega (arith, false-le (suc i) j y, false-le (suc j) i z)))

-- ---- accesses and coordinates

-- a coordinate is that of some number
pub coordinate-onto : (U : List ℕ) (size own c : ℕ) → Onto U size → get_or U own 0 ≡ 0 → c < size →
    (v : ℕ) × (coordinate U own v ≡ c)
unfolding coordinate
coordinate-onto U size own c onto free h = cases (eqb c 0)
    (λ e. (own, rw (eq_true (get_or U own 0) 0 free, eq_true own own refl) (sym (true_eq c 0 e))))
    (λ e. let z = false_eq c 0 e in
    let w = onto.all c (omega arith) h in
    (w.0, coordinate-listed U own w.0 (omega (arith, w.1)) ∙ w.1))

-- something is needed where a bit is
pub bit-used : (k x : ℕ) → bit k x ≡ true → used x ≡ true
bit-used k x e = cases (eqb x 0)
    (λ y. absurd (none_set k (ap (bit k) (sym (true_eq x 0 y)) ∙ e)))
    (λ y. rw y)

-- the coordinate of a number that has one is its entry in the table
pub coordinate-entry : (U : List ℕ) (own v : ℕ) → coordinate U own v < 255 → coordinate U own v ≡ get_or U v 0
coordinate-entry U own v h = ⊎_elim (λ w. w.1) (λ w. w.2 ∙ sym w.0) (coordinate_cases U own v h)

-- object and subject of the pair with number i
abbrev pub object_in : List ℕ → ℕ → ℕ
object_in codes i = get_or codes i 0 / 256

abbrev pub subject_in : List ℕ → ℕ → ℕ
subject_in codes i = get_or codes i 0 % 256

module _ {holder : Base} {n : ℕ} {C : Chart} {asked : Access} {p : Prepared} {rules words bits : ℕ}
    (d : Drawn holder n C asked p rules words bits) where
  pub narrow : (C.width ≤ 65) × (0 < C.width) × (C.height ≤ 65)
  narrow = (
    omega (arith, d.charted.subjects.few, d.well_formed.few),
    d.charted.subjects.some,
    omega (arith, d.charted.objects.few, d.well_formed.few),
  )

  pub size_few : C.height * C.width ≤ 4225
  size_few = mul-le-mul narrow.2 narrow.0

  -- each object, subject and mode has its access
  pub record At (o s m : ℕ) : Type 0 where
    pub access : Access
    pub object : object_of C asked access ≡ o
    pub subject : subject_of C asked access ≡ s
    pub mode : access.mode ≡ suc m

  pub access_at : (o s m : ℕ) → o < C.height → s < C.width → At o s m
  access_at o s m h k =
      let v = coordinate-onto C.objects C.height asked.object o d.objects d.unlisted.1 h in
      let w = coordinate-onto C.subjects C.width asked.subject s d.subjects d.unlisted.0 k in
      record {
        access = record { subject = w.0; mode = suc m; object = v.0 };
        object = v.1;
        subject = w.1;
        mode = refl;
      }

  -- the pair of a known access
  pub pair_below : (x : Access) → known C asked x ≡ true → pair_of C asked x < length p.need
  pair_below x k =
      let w = (known_is C asked x).0 k in
      let q : suc (object_of C asked x) * C.width ≤ C.height * C.width =
      mul-le-mul_right C.width w.0 in
      omega (arith, d.size, w.1)

  pub pair_used : (x : Access) → needed C asked p.need x ≡ true →
      used (get_or p.need (pair_of C asked x) 0) ≡ true
  pair_used x e = bit-used (mode_of x + 8 * 0) (get_or p.need (pair_of C asked x) 0)
      (needed-bit C asked p.need x e false)

  -- ---- places

  module _ (base : Base) where
    abbrev mapping : Mapping
    mapping = mapping_of base C asked p

    pub number_is : (x : Access) → known C asked x ≡ true →
        (place_of mapping x).pair ≡ used_before p.need (pair_of C asked x)
    number_is x k = rw d.grid.0 (d.numbers.1 (pair_of C asked x) (pair_below x k))

    pub mapping-placed : Placed mapping
    mapping-placed = record {
      apart = λ x y m k s o e. known_one C asked d.charted d.well_formed.few x y
          (needed-known C asked p.need x m) (needed-known C asked p.need y k) o s e;
      paired = λ x y m k. (
        (λ e. one x y m k e),
        (λ w. rw (w.0, w.1)),
      );
    }
      where
        one : (x y : Access) → needed C asked p.need x ≡ true → needed C asked p.need y ≡ true →
            (place_of mapping x).pair ≡ (place_of mapping y).pair →
            (subject_of C asked x ≡ subject_of C asked y) × (object_of C asked x ≡ object_of C asked y)
        one x y m k e =
            let a = needed-known C asked p.need x m in
            let b = needed-known C asked p.need y k in
            let q = used_before_same p.need (pair_of C asked x) (pair_of C asked y) (pair_below x a)
            (pair_below y b) (pair_used x m) (pair_used y k) (sym (number_is x a) ∙ e ∙ number_is y b) in
            let w = parted (object_of C asked x) (object_of C asked y) C.width (subject_of C asked x)
            (subject_of C asked y) ((known_is C asked x).0 a).1 ((known_is C asked y).0 b).1 q in
            (w.1, w.0)

  -- ---- pairs by number

  -- every number is that of a pair
  pub record PairAt (i : ℕ) : Type 0 where
    pub at : ℕ
    pub inside : at < length p.need
    pub needed-there : used (get_or p.need at 0) ≡ true
    pub number : used_before p.need at ≡ i
    pub object : object_in p.codes i < C.height
    pub subject : subject_in p.codes i < C.width
    pub pair : object_in p.codes i * C.width + subject_in p.codes i ≡ at

  pub pair_at_lem : (i : ℕ) → i < p.frame.grid.pairs → PairAt i
  unfolding code_of
  pair_at_lem i h =
      let w = used_before-onto p.need i (omega (arith, d.grid.2)) in
      let j = w.at in
      let l = mod-lt j narrow.1 in
      let c : get_or p.codes i 0 ≡ 256 * (j / C.width) + j % C.width =
      ap (λ (k : ℕ). get_or p.codes k 0) (sym w.number) ∙ d.codes.1 j w.inside w.needed in
      let n = narrow.0 in
      let o : object_in p.codes i ≡ j / C.width = ap (λ (k : ℕ). k / 256) c ∙ omega arith in
      let s : subject_in p.codes i ≡ j % C.width = ap (λ (k : ℕ). k % 256) c ∙ omega arith in
      let b : j / C.width < C.height =
      (div-lt_iff_lt-mul narrow.1).1 (omega (arith, w.inside, d.size)) in
      record {
        at = j;
        inside = w.inside;
        needed-there = w.needed;
        number = w.number;
        object = omega arith;
        subject = omega arith;
        pair = rw (o, s) (div-add-mod' j C.width);
      }

  pub pair_code : (i : ℕ) → i < p.frame.grid.pairs →
      PairCode C.width (length p.need) (get_or p.codes i 0)
  pair_code i h =
      let w = pair_at_lem i h in
      record {
        object = omega (arith, w.object, narrow.2);
        subject = omega (arith, w.subject, narrow.0);
        inside = omega (arith, w.pair, w.inside);
      }

  -- and the number of a needed access leads back to its object and its subject
  pub number-below : (x : Access) → needed C asked p.need x ≡ true →
      used_before p.need (pair_of C asked x) < p.frame.grid.pairs
  number-below x e =
      let l = pair_below x (needed-known C asked p.need x e) in
      omega (arith, d.grid.2, used_before-below p.need (pair_of C asked x) l (pair_used x e))

  pub pair_back : (x : Access) → needed C asked p.need x ≡ true →
      (object_in p.codes (used_before p.need (pair_of C asked x)) ≡ object_of C asked x)
      × (subject_in p.codes (used_before p.need (pair_of C asked x)) ≡ subject_of C asked x)
  pair_back x e =
      let k = needed-known C asked p.need x e in
      let i : ℕ = used_before p.need (pair_of C asked x) in
      let w = pair_at_lem i (number-below x e) in
      let q = used_before_same p.need w.at (pair_of C asked x) w.inside (pair_below x k)
      w.needed-there
      (pair_used x e) w.number in
      parted (object_in p.codes i) (object_of C asked x) C.width (subject_in p.codes i)
      (subject_of C asked x) w.subject ((known_is C asked x).0 k).1 (w.pair ∙ q)

  -- ---- within the grid

  -- the place of a needed access is one of the grid
  pub place-within : (base : Base) (x : Access) → needed C asked p.need x ≡ true →
      Within p.frame.grid (place_of (mapping_of base C asked p) x).pair ((mapping_of base C asked p).point x)
  place-within base x e =
      let k = needed-known C asked p.need x e in
      let w = (known_is C asked x).0 k in
      let j : ℕ = pair_of C asked x in
      let m : ℕ = mode_of x in
      let b : bit m (get_or p.need j 0) ≡ true =
      ap (λ (i : ℕ). bit i (get_or p.need j 0)) (omega arith) ∙ needed-bit C asked p.need x e false in
      record {
        pair = omega (arith, number_is base x k, number-below x e);
        subject = omega (arith, d.grid.0, w.1);
        object = omega (arith, d.grid.1, w.0);
        mode = d.modes.1 j m (pair_below x k) (omega arith)
            (or_intro_left (bit m (get_or p.need j 0)) (bit (8 + m) (get_or p.need j 0)) b);
      }

  -- which is small
  pub grid_small : SmallGrid p.frame.grid
  grid_small =
      let n = narrow in
      record {
        subjects = omega (arith, d.grid.0);
        objects = omega (arith, d.grid.1);
        pairs = omega (arith, d.grid.2, used_before-le p.need (length p.need), d.size, size_few);
        modes = ones-le 8 p.frame.grid.modes (omega (arith, d.modes.0));
      }
