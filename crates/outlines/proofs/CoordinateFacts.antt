-- Accesses by coordinates: one that has a place is known by its coordinates and its mode (`known-one`).
use mathlib.Core.Path.{◌≡◌, sym, ◌∙◌}
use mathlib.Core.Logic.{◌⊎◌, inl, inr, ◌↔◌}
use mathlib.Core.Bool.{true, false}
use mathlib.Core.List.{List}
use Prim.Native.Nat.{ℕ, ◌*◌, suc, ◌-◌, ◌≤◌, ◌<◌}
use native.Mathlib.Nat.{mul-le-mul_right, suc-mul}
use native.Mathlib.Omega.{arith}
use lib.Dec.{eqb, leb, ltb}
use lib.ListN.{get_or}
use Rattle.foundation.specs.Tests.{pick, cases, true_eq, false_eq, ne_false, true-le, le-true}
use Rattle.foundation.specs.Tests.{and-true, and_intro, and_three}
use Rattle.model.specs.declared.Rule.{Rule}
use Rattle.model.specs.declared.Access.{Access}
use Rattle.model.specs.Ranges.{is_mode}
use Rattle.model.specs.Stratification.{is_star}
use Rattle.reach.specs.Net.{turned}
use Rattle.outlines.specs.Coordinates.{HasCoordinates, Apart, Chart, Charted, coordinate, subject_of}
use Rattle.outlines.specs.Coordinates.{object_of}
use Rattle.outlines.specs.Coordinates.{known}
use Rattle.outlines.specs.Coordinates.{mode_of, pair_of}
use Rattle.outlines.specs.Outline.{code_in, mode_code}

-- a coordinate from 1 on is that of the table
pub coordinate-listed : (U : List ℕ) (own v : ℕ) → 0 < get_or U v 0 → coordinate U own v ≡ get_or U v 0
unfolding coordinate
coordinate-listed U own v h = let e = ne_false (get_or U v 0) 0 (λ z. omega arith) in rw e

-- one that is not listed is the own one, if it has a coordinate
pub coordinate_cases : (U : List ℕ) (own v : ℕ) → coordinate U own v < 255 →
    ((0 < get_or U v 0) × (coordinate U own v ≡ get_or U v 0))
    ⊎ ((get_or U v 0 ≡ 0) × (v ≡ own) × (coordinate U own v ≡ 0))
unfolding coordinate
coordinate_cases U own v h = cases (eqb (get_or U v 0) 0)
    (λ e. cases (eqb v own)
    (λ q. inr (true_eq (get_or U v 0) 0 e, true_eq v own q, rw (e, q)))
    (λ q. absurd (omega (arith, rw (e, q) at h))))
    (λ e. let z = false_eq (get_or U v 0) 0 e in inl (omega arith, rw e))

pub numbered_apart : {field : Rule → ℕ} {n : ℕ} {body U : List ℕ} {size : ℕ} → HasCoordinates field n body U
    size →
    n ≤ 64 → Apart U
numbered_apart m few = record { below = λ v. omega (arith, m.below v, m.few); apart = m.apart }

module _ {field : Rule → ℕ} {n : ℕ} {body U : List ℕ} {size : ℕ} (m : HasCoordinates field n body U size)
    (few : n ≤ 64) (own : ℕ) where
  pub coordinate_one : (v w : ℕ) → coordinate U own v < size → coordinate U own v ≡ coordinate U own w → v ≡ w
  coordinate_one v w h e =
      let s = m.few in
      go (coordinate_cases U own v (omega arith)) (coordinate_cases U own w (omega arith))
    where
      go : ((0 < get_or U v 0) × (coordinate U own v ≡ get_or U v 0))
          ⊎ ((get_or U v 0 ≡ 0) × (v ≡ own) × (coordinate U own v ≡ 0)) →
          ((0 < get_or U w 0) × (coordinate U own w ≡ get_or U w 0))
          ⊎ ((get_or U w 0 ≡ 0) × (w ≡ own) × (coordinate U own w ≡ 0)) → v ≡ w
      go (inl p) (inl q) = m.apart v w p.0 (omega arith)
      go (inl p) (inr q) = absurd (omega arith)
      go (inr p) (inl q) = absurd (omega arith)
      go (inr p) (inr q) = p.1 ∙ sym q.1

  -- a coordinate of a right side, seen from u
  pub turned-coordinate : (u v : ℕ) → (is_star v ≡ false → 0 < get_or U v 0) →
      turned (code_in U v) (coordinate U own u) ≡ coordinate U own (pick (is_star v) u v)
  turned-coordinate u v named =
      let s = m.few in
      cases (is_star v)
      (λ e. rw e)
      (λ e. let c = named e in
      let d = m.below v in
      let f = ne_false (get_or U v 0) 255 (λ z. omega arith) in
      rw e (rw (f, coordinate-listed U own v c)))

  -- and it is one of the coordinates
  pub coordinate-below : (u v : ℕ) → (is_star v ≡ false → 0 < get_or U v 0) → coordinate U own u < size →
      coordinate U own (pick (is_star v) u v) < size
  coordinate-below u v named h = cases (is_star v)
      (λ e. rw e h)
      (λ e. let c = named e in rw e (rw (coordinate-listed U own v c) (m.below v)))

pub turned-mode : (u m : ℕ) → m ≤ 8 → turned (mode_code m) (u - 1) ≡ pick (is_star m) u m - 1
turned-mode u m h = cases (is_star m)
    (λ e. rw e)
    (λ e. let f = ne_false (m - 1) 255 (λ z. omega arith) in rw e (rw f))

-- what a known access is
module _ (C : Chart) (asked : Access) where
  pub known_is : (x : Access) → (known C asked x ≡ true)
      ↔ ((object_of C asked x < C.height) × (subject_of C asked x < C.width) × (1 ≤ x.mode) × (x.mode ≤ 8))
  unfolding known
  known_is x = (
    (λ e. let w = (and_three (ltb (object_of C asked x) C.height) (ltb (subject_of C asked x) C.width)
        (is_mode x.mode)).0 e in
        let v = and-true (leb 1 x.mode) (leb x.mode 8) w.2 in (
          true-le (suc (object_of C asked x)) C.height w.0,
          true-le (suc (subject_of C asked x)) C.width w.1,
          true-le 1 x.mode v.0,
          true-le x.mode 8 v.1,
        )),
    (λ w. (and_three (ltb (object_of C asked x) C.height) (ltb (subject_of C asked x) C.width)
        (is_mode x.mode)).1 (
          le-true (suc (object_of C asked x)) C.height w.0,
          le-true (suc (subject_of C asked x)) C.width w.1,
          and_intro (leb 1 x.mode) (leb x.mode 8) (le-true 1 x.mode w.2)
              (le-true x.mode 8 w.3),
        )),
  )

  same_access : (x y : Access) → x.subject ≡ y.subject → x.mode ≡ y.mode → x.object ≡ y.object → x ≡ y
  same_access x y s m o = λ i. record { subject = s i; mode = m i; object = o i }

  -- two accesses at one place are one
  pub known_one : {n : ℕ} {body : List ℕ} → Charted n body C → n ≤ 64 → (x y : Access) →
      known C asked x ≡ true → known C asked y ≡ true → object_of C asked x ≡ object_of C asked y →
      subject_of C asked x ≡ subject_of C asked y → mode_of x ≡ mode_of y → x ≡ y
  known_one t few x y k l o s m =
      let p = (known_is x).0 k in
      let q = (known_is y).0 l in
      same_access x y
      (coordinate_one t.subjects few asked.subject x.subject y.subject p.1 s)
      (omega arith)
      (coordinate_one t.objects few asked.object x.object y.object p.0 o)

  -- its pair is one of the net's
  pub pair_below : (x : Access) → known C asked x ≡ true → pair_of C asked x < C.height * C.width
  pair_below x k =
      let w = (known_is x).0 k in
      let o = object_of C asked x in
      let l : suc o * C.width ≤ C.height * C.width = mul-le-mul_right C.width w.0 in
      omega (arith, suc-mul o C.width)
