-- Where rules lead, by coordinates: from the place of an access to that of the access on a rule's right.
use mathlib.Core.Path.{◌≡◌, refl, sym, ap, ap₂, ◌∙◌, subst}
use mathlib.Core.Bool.{true}
use mathlib.Core.List.{List}
use Prim.Native.Nat.{ℕ, suc, ◌+◌, ◌*◌, ◌-◌, ◌/◌, ◌≤◌, ◌<◌}
use native.Mathlib.Omega.{arith}
use lib.Dec.{eqb, ltb}
use lib.ListN.{get_or}
use Rattle.foundation.specs.Tests.{cases, false_eq, eq_true, true-le}
use Rattle.foundation.specs.Tests.{false-le}
use Rattle.foundation.specs.BitMasks.{bit}
use Rattle.model.specs.declared.Rule.{Rule}
use Rattle.model.specs.declared.Access.{Access}
use Rattle.model.specs.declared.Pattern.{Pattern}
use Rattle.model.specs.Stratification.{is_star}
use Rattle.model.specs.Rules.{right_of}
use Rattle.model.proofs.SideFacts.{right_eq}
use Rattle.encoding.specs.Format.{rule_at}
use Rattle.places.specs.Needs.{both_signs}
use Rattle.places.proofs.NeedBits.{both_bits}
use Rattle.reach.specs.Net as net
use Rattle.reach.specs.Net.{turned, right_pair, right_needs, Formed}
use Rattle.outlines.specs.Coordinates.{WellFormed, HasCoordinates, Chart, Charted, subject_of}
use Rattle.outlines.specs.Coordinates.{object_of}
use Rattle.outlines.specs.Coordinates.{known, mode_of, pair_of}
use Rattle.outlines.proofs.CoordinateFacts.{known_is, turned-coordinate, coordinate-below}
use Rattle.outlines.proofs.CoordinateFacts.{turned-mode}
use Rattle.outlines.specs.Outline.{code_in, RightSides}

module _ {n : ℕ} {body : List ℕ} (g : WellFormed n body) (C : Chart) (t : Charted n body C) (right : List ℕ)
    (codes : RightSides C.subjects C.objects n body right) where
  module _ (asked : Access) (r : ℕ) (h : r < n) where
    -- the access on the right of rule r, seen from x
    abbrev right_access : Access → Access
    right_access x = (right_of (rule_at body r) x).access

    pub right_object_lem : (x : Access) →
        turned (get_or right (4 * r) 0) (object_of C asked x) ≡ object_of C asked (right_access x)
    right_object_lem x =
        rw (codes r h).object
        (turned-coordinate t.objects g.few asked.object x.object
        (rule_at body r).right.object (t.objects.named r h))
        ∙ ap (λ (p : Pattern). object_of C asked p.access) (sym (right_eq (rule_at body r) x))

    pub right_subject_lem : (x : Access) →
        turned (get_or right (4 * r + 1) 0) (subject_of C asked x) ≡ subject_of C asked (right_access x)
    right_subject_lem x =
        rw (codes r h).subject
        (turned-coordinate t.subjects g.few asked.subject x.subject
        (rule_at body r).right.subject (t.subjects.named r h))
        ∙ ap (λ (p : Pattern). subject_of C asked p.access) (sym (right_eq (rule_at body r) x))

    pub right_mode_lem : (x : Access) → turned (get_or right (4 * r + 2) 0) (mode_of x) ≡ mode_of (right_access x)
    right_mode_lem x =
        rw (codes r h).mode (turned-mode x.mode (rule_at body r).right.mode (g.right r h).mode)
        ∙ ap (λ (p : Pattern). mode_of p.access) (sym (right_eq (rule_at body r) x))

    pub right_pair_lem : (x : Access) →
        right_pair right C.width r (object_of C asked x) (subject_of C asked x) ≡ pair_of C asked
        (right_access x)
    unfolding right_pair
    right_pair_lem x = ap₂ (λ (o s : ℕ). o * C.width + s) (right_object_lem x) (right_subject_lem x)

    pub right_known : (x : Access) → known C asked x ≡ true → known C asked (right_access x) ≡ true
    right_known x k =
        let w = (known_is C asked x).0 k in
        let m = (rule_at body r).right.mode in
        let l = (g.right r h).mode in
        subst (λ (p : Pattern). known C asked p.access ≡ true) (sym (right_eq (rule_at body r) x))
        ((known_is C asked _).1 (
          coordinate-below t.objects g.few asked.object x.object
              (rule_at body r).right.object (t.objects.named r h) w.0,
          coordinate-below t.subjects g.few asked.subject x.subject
              (rule_at body r).right.subject (t.subjects.named r h) w.1,
          cases (is_star m) (λ e. rw e w.2) (λ e. let z = false_eq m 0 e in rw e (omega arith)),
          cases (is_star m) (λ e. rw e w.3) (λ e. rw e l),
        ))

    -- both signs are needed there
    pub right_needs_lem : (x : Access) →
        (bit (mode_of (right_access x)) (right_needs right r (mode_of x)) ≡ true)
        × (bit (8 + mode_of (right_access x)) (right_needs right r (mode_of x)) ≡ true)
    unfolding right_needs
    right_needs_lem x =
        let m = mode_of (right_access x) in
        let e : right_needs right r (mode_of x) ≡ both_signs m = rw (codes r h).signs (rw (right_mode_lem x)) in
        let w = both_bits m in
        (ap (bit m) e ∙ w.0, ap (bit (8 + m)) e ∙ w.1)

  -- the net that reach walks
  pub formed : ((k : ℕ) → n ≤ k / 4 → get_or right k 0 ≡ 0) → Formed right C.width (C.height * C.width)
  formed z = record {
    objects = C.height;
    rows = refl;
    some = t.subjects.some;
    low = omega (arith, t.subjects.few, g.few);
    few = omega (arith, t.objects.few, g.few);
    codes = λ r h. cases (ltb r n) (λ e. drawn r (true-le (suc r) n e)) (λ e. empty r (false-le (suc r) n e));
  }
    where
      code_below : {field : Rule → ℕ} {U : List ℕ} {size c : ℕ} → HasCoordinates field n body U size →
          (v : ℕ) →
          c ≡ code_in U v → (eqb c 255 ≡ true → ⊥) → c < size
      code_below {field} {U} {size} {c} m v e ne = cases (is_star v)
          (λ s. absurd (ne (eq_true c 255 (e ∙ rw s))))
          (λ s. let f : c ≡ get_or U v 0 = e ∙ rw s in omega (arith, m.below v))

      drawn : (r : ℕ) → r < n → net.CodedRight right C.height C.width r
      drawn r h =
          let w = codes r h in
          let m = (rule_at body r).right.mode in
          record {
            object = code_below t.objects (rule_at body r).right.object w.object;
            subject = code_below t.subjects (rule_at body r).right.subject w.subject;
            mode = λ ne. cases (is_star m)
                (λ s. absurd (ne (eq_true (get_or right (4 * r + 2) 0) 255 (w.mode ∙ rw s))))
                (λ s. let k = false_eq m 0 s in
                let f : get_or right (4 * r + 2) 0 ≡ m - 1 = w.mode ∙ rw s in omega
                (arith, (g.right r h).mode));
            signs = omega (arith, w.signs);
          }

      empty : (r : ℕ) → n < suc r → net.CodedRight right C.height C.width r
      empty r h = record {
        object = λ ne. omega (arith, z (4 * r) (omega arith), t.objects.some);
        subject = λ ne. omega (arith, z (4 * r + 1) (omega arith), t.subjects.some);
        mode = λ ne. omega (arith, z (4 * r + 2) (omega arith));
        signs = omega (arith, z (4 * r + 3) (omega arith));
      }
