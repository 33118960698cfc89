-- The masks say which rules stand on an object once owners and administrators are asked (`masked`), and which
-- stand for an access (`stands`).
use mathlib.Core.Path.{◌≡◌, refl, sym, ap, ap₂, ◌∙◌}
use mathlib.Core.Logic.{⊎_elim}
use mathlib.Core.Bool.{Bool, true, false, ◌&&◌, ◌||◌, beq}
use mathlib.Core.List.{List}
use Prim.Native.Nat.{ℕ, suc, ◌+◌, ◌*◌, ◌-◌, ◌%◌, ◌≤◌, ◌<◌}
use native.Mathlib.Omega.{arith}
use lib.Bits.{bit_and}
use lib.Dec.{eqb, ltb}
use lib.ListN.{get_or}
use Rattle.foundation.specs.Tests.{cases, agree, true_eq, false_eq, eq_true, ne_false}
use Rattle.foundation.specs.Tests.{true-le, false-le, or_false, and-true}
use Rattle.foundation.specs.BitMasks.{as_bit, bit, bit_le, mask_of, mask_at, mask_inside}
use Rattle.foundation.specs.BitLaws.{bit_and_lem}
use Rattle.foundation.specs.ByteRecords.{length-records}
use Rattle.model.specs.declared.Rule.{Rule}
use Rattle.model.specs.declared.Access.{Access}
use Rattle.model.specs.Base.{Base, controls}
use Rattle.model.specs.Encoding.{rule_of, decode}
use Rattle.model.specs.Stratification.{is_star}
use Rattle.model.specs.Rules.{stands_on}
use Rattle.model.proofs.SideFacts.{stands_eq, stands_same}
use Rattle.encoding.specs.Format.{rules_in, rule_at}
use Rattle.reach.specs.Net.{standing}
use Rattle.outlines.specs.Coordinates.{WellFormed, HasCoordinates, Chart, Charted, subject_of, object_of}
use Rattle.outlines.specs.Coordinates.{mode_of}
use Rattle.outlines.proofs.CoordinateFacts.{known_is, coordinate_cases}
use Rattle.outlines.specs.Outline.{code_in, mode_code, signs_of, LeftSides, StandingMasks}
use Rattle.outlines.specs.LeftMasks.{object_code, subject_code, mode_code_of, sign_code, CodesPlaced}
use Rattle.outlines.specs.LeftMasks.{on_subject}
use Rattle.outlines.specs.LeftMasks.{controlled_by, WrittenMasks, Controlled, Masked, Owned}

-- ---- codes and what they stand for

-- a listed number has its code alone
pub code_is : {field : Rule → ℕ} {n : ℕ} {body U : List ℕ} {size : ℕ} → HasCoordinates field n body U size →
    n ≤
    64 →
    (u v : ℕ) → 0 < get_or U v 0 → eqb u 0 ≡ false → eqb (code_in U u) (get_or U v 0) ≡ eqb u v
code_is {field} {n} {body} {U} m few u v h ne = rw ne (agree (eqb (get_or U u 0) (get_or U v 0)) (eqb u v)
    (λ e. let z = true_eq (get_or U u 0) (get_or U v 0) e in eq_true u v (m.apart u v (omega arith) z))
    (λ e. eq_true (get_or U u 0) (get_or U v 0) (ap (λ (k : ℕ). get_or U k 0) (true_eq u v e))))

-- a star has its own
pub star_is : {field : Rule → ℕ} {n : ℕ} {body U : List ℕ} {size : ℕ} → HasCoordinates field n body U size →
    n ≤ 64 → (u : ℕ) → eqb (code_in U u) 255 ≡ is_star u
star_is {field} {n} {body} {U} m few u = cases (eqb u 0)
    (λ e. rw e)
    (λ e. rw e (ne_false (get_or U u 0) 255 (λ z. omega (arith, m.below u, m.few))))

-- another code is small
pub code_small : {field : Rule → ℕ} {n : ℕ} {body U : List ℕ} {size c : ℕ} → HasCoordinates field n body U
    size →
    n ≤ 64 → (v : ℕ) → c ≡ code_in U v → (c ≡ 255 → ⊥) → c < 65
code_small {field} {n} {body} {U} {size} {c} m few v e ne = cases (is_star v)
    (λ s. absurd (ne (e ∙ rw s)))
    (λ s. let f : c ≡ get_or U v 0 = e ∙ rw s in omega (arith, m.below v, m.few))

pub subject_is : {field : Rule → ℕ} {n : ℕ} {body U : List ℕ} {size : ℕ} → HasCoordinates field n body U
    size → n
    ≤ 64 →
    (u v : ℕ) → 0 < get_or U v 0 →
    eqb (code_in U u) 255 || eqb (code_in U u) (get_or U v 0) ≡ is_star u || eqb u v
subject_is {field} {n} {body} {U} m few u v h = cases (eqb u 0)
    (λ e. rw e)
    (λ e. ap₂ (λ (a b : Bool). a || b) (star_is m few u) (code_is m few u v h e))

pub mode_is : (l m : ℕ) → l ≤ 8 → 1 ≤ m → m ≤ 8 →
    eqb (mode_code l) 255 || eqb (mode_code l) (m - 1) ≡ is_star l || eqb l m
mode_is l m h a b = cases (eqb l 0)
    (λ e. rw e)
    (λ e. let z = false_eq l 0 e in
    rw (e, ne_false (l - 1) 255 (λ y. omega arith)) (agree (eqb (l - 1) (m - 1)) (eqb l m)
    (λ y. let q = true_eq (l - 1) (m - 1) y in eq_true l m (omega arith))
    (λ y. let q = true_eq l m y in eq_true (l - 1) (m - 1) (omega arith))))

pub sign_is : (r : Rule) (g : Bool) → eqb (signs_of r % 2) (as_bit g) ≡ beq r.left.negative g
sign_is r g =
    let e : signs_of r % 2 ≡ as_bit r.left.negative = omega (arith, bit_le r.left.negative) in
    ap (λ (k : ℕ). eqb k (as_bit g)) e ∙ bits r.left.negative g
  where
    bits : (a b : Bool) → eqb (as_bit a) (as_bit b) ≡ beq a b
    bits true true = refl
    bits true false = refl
    bits false true = refl
    bits false false = refl

-- ---- the masks

-- the tests of a rule count if there is one
pub under : (t p q : Bool) → (t ≡ true → p ≡ q) → t && p ≡ t && q
under true p q f = f refl
under false p q f = refl

-- the bits of a mask of rules
pub rule-bit : (n : ℕ) (body : List ℕ) (p : Rule → Bool) (r : ℕ) →
    bit r (mask_of p (rules_in n body)) ≡ ltb r n && p (rule_at body r)
rule-bit n body p r = cases (ltb r n)
    (λ e. rw e (mask_at 28 rule_of p n body r (true-le (suc r) n e)))
    (λ e. rw e (cases (bit r (mask_of p (rules_in n body)))
    (λ y. absurd (omega (
      arith,
      false-le (suc r) n e,
      mask_inside p (rules_in n body) r y,
      length-records 28 rule_of n body,
    )))
    (λ y. y)))

-- three tests of a rule, as the masks have them and as a rule that stands has them
three_tests : (t o s g m : Bool) → ((t && o) && (t && s)) && (t && (g && m)) ≡ t && (((s && m) && o) && g)
three_tests false o s g m = refl
three_tests true false s g m = sym (last s m g)
  where
    last : (s m g : Bool) → ((s && m) && false) && g ≡ false
    last true true g = refl
    last true false g = refl
    last false m g = refl
three_tests true true false g m = refl
three_tests true true true true true = refl
three_tests true true true true false = refl
three_tests true true true false true = refl
three_tests true true true false false = refl

module _ {n : ℕ} {body : List ℕ} (g : WellFormed n body) (C : Chart) (t : Charted n body C) (sides : List ℕ)
    (codes : LeftSides C.subjects C.objects n body sides) where
  -- the codes of left sides name words
  pub left_placed : (r : ℕ) → r < n → CodesPlaced sides r
  left_placed r h =
      let w = codes r h in
      let l = (rule_at body r).left in
      record {
        object = code_small t.objects g.few l.object w.object;
        subject = code_small t.subjects g.few l.subject w.subject;
        mode = λ ne. cases (eqb l.mode 0)
            (λ s. absurd (ne (w.mode ∙ rw s)))
            (λ s. let z = false_eq l.mode 0 s in
            let e : mode_code_of sides r ≡ l.mode - 1 = w.mode ∙ rw s in omega (arith, (g.left r h).mode));
      }

  -- a rule is on an object with a coordinate: it names it, or is starred there and its author controls it
  on_object_lem : (b : Base) (v r : ℕ) → r < n → 0 < get_or C.objects v 0 →
      eqb (object_code sides r) (get_or C.objects v 0)
      || (eqb (object_code sides r) 255 && controls b v (rule_at body r).author)
      ≡ stands_on b (rule_at body r) v
  on_object_lem b v r h k =
      let U = C.objects in
      let u = (rule_at body r).left.object in
      let few = t.objects.few in
      let below = t.objects.below v in
      let n64 = g.few in
      rw (codes r h).object (cases (eqb u 0)
      (λ e. let z = ne_false 255 (get_or U v 0) (λ y. omega arith) in rw (e, z))
      (λ e. ap₂ (λ (a d : Bool). a || (d && controls b v (rule_at body r).author))
      (code_is t.objects n64 u v k e) (star_is t.objects n64 u ∙ e)
      ∙ or_false (eqb u v) ∙ rw e))

  pub masked : (s left left' : List ℕ) → WrittenMasks n C.width sides left →
      Controlled s body C.objects left left' → Masked (decode s) n C body sides left'
  masked s left left' w d =
      let few = t.objects.few in
      let n64 = g.few in
      record {
        sided = record {
          subject = λ u r z h. ap (bit r) (d.other (65 + u) (omega arith)) ∙ w.sided.subject u r z h;
          mode = λ m k r h l. ap (bit r) (d.other (130 + (m + 8 * k)) (omega arith))
              ∙ w.sided.mode m k r h l;
          sign = λ k r h. ap (bit r) (d.other (146 + k) (omega arith)) ∙ w.sided.sign k r h;
        };
        object = λ v r h.
            let o = get_or C.objects v 0 in
            let below = t.objects.below v in
            let a = controlled_by s body v r in
            d.object v r h
            ∙ ap₂ (λ (x y : Bool). x || (y && a)) (w.object o r h (omega arith)) (w.starred r)
            ∙ joined (ltb r n) (eqb (object_code sides r) o) (eqb (object_code sides r) 255) a
            ∙ under (ltb r n) (eqb (object_code sides r) o || (eqb (object_code sides r) 255 && a))
            (stands_on (decode s) (rule_at body r) v) (λ e. on_object_lem (decode s) v r (true-le (suc r) n e) h);
      }
    where
      joined : (t x y a : Bool) → (t && x) || ((t && y) && a) ≡ t && (x || (y && a))
      joined true x y a = refl
      joined false x y a = refl

  module _ (b : Base) (asked : Access) (left left' : List ℕ) (masks : Masked b n C body sides left)
      (owned : Owned b n body asked left left') where
    pub object-bit : (x : Access) → object_of C asked x < C.height → (r : ℕ) →
        bit r (get_or left' (object_of C asked x) 0) ≡ ltb r n && stands_on b (rule_at body r) x.object
    object-bit x h r =
        let few = t.objects.few in
        let k = g.few in
        let U = C.objects in
        let o = object_of C asked x in
        ⊎_elim
        (λ w. ap (bit r) (owned.other o (λ z. omega arith) (λ z. omega arith))
        ∙ ap (λ (j : ℕ). bit r (get_or left j 0)) w.1 ∙ masks.object x.object r w.0)
        (λ w. ap (λ (j : ℕ). bit r (get_or left' j 0)) w.2 ∙ ap (bit r) owned.object
        ∙ rule-bit n body (λ q. stands_on b q asked.object) r
        ∙ ap (λ (j : ℕ). ltb r n && stands_on b (rule_at body r) j) (sym w.1))
        (coordinate_cases U asked.object x.object (omega arith))

    pub subject-bit : (x : Access) → subject_of C asked x < C.width → (r : ℕ) →
        bit r (get_or left' (65 + subject_of C asked x) 0) ≡ ltb r n && on_subject x.subject (rule_at body r)
    subject-bit x h r =
        let few = t.subjects.few in
        let k = g.few in
        let U = C.subjects in
        let s = subject_of C asked x in
        ⊎_elim
        (λ w. ap (bit r) (owned.other (65 + s) (λ z. omega arith) (λ z. omega arith))
        ∙ masks.sided.subject s r (omega arith) h
        ∙ under (ltb r n) (eqb (subject_code sides r) 255 || eqb (subject_code sides r) s)
        (on_subject x.subject (rule_at body r)) (λ e.
        let l = true-le (suc r) n e in
        rw ((codes r l).subject, w.1)
        (subject_is t.subjects k (rule_at body r).left.subject x.subject w.0)))
        (λ w. ap (λ (j : ℕ). bit r (get_or left' (65 + j) 0)) w.2 ∙ ap (bit r) owned.subject
        ∙ rule-bit n body (on_subject asked.subject) r
        ∙ ap (λ (j : ℕ). ltb r n && on_subject j (rule_at body r)) (sym w.1))
        (coordinate_cases U asked.subject x.subject (omega arith))

    mode-bit : (x : Access) → 1 ≤ x.mode → x.mode ≤ 8 → (r : ℕ) (d : Bool) →
        bit r (get_or left' (130 + (mode_of x + 8 * as_bit d)) 0)
        ≡ ltb r n && (beq (rule_at body r).left.negative d
        && (is_star (rule_at body r).left.mode || eqb (rule_at body r).left.mode x.mode))
    mode-bit x a e r d =
        let w : ℕ = 130 + (mode_of x + 8 * as_bit d) in
        let l = bit_le d in
        ap (bit r) (owned.other w (λ z. omega arith) (λ z. omega arith))
        ∙ masks.sided.mode (mode_of x) (as_bit d) r (omega arith) (omega arith)
        ∙ under (ltb r n)
        (eqb (sign_code sides r) (as_bit d)
        && (eqb (mode_code_of sides r) 255 || eqb (mode_code_of sides r) (mode_of x)))
        (beq (rule_at body r).left.negative d
        && (is_star (rule_at body r).left.mode || eqb (rule_at body r).left.mode x.mode))
        (λ y. let h = true-le (suc r) n y in
        ap₂ (λ (u v : Bool). u && v)
        (ap (λ (k : ℕ). eqb (k % 2) (as_bit d)) (codes r h).signs ∙ sign_is (rule_at body r) d)
        (ap (λ (k : ℕ). eqb k 255 || eqb k (mode_of x)) (codes r h).mode
        ∙ mode_is (rule_at body r).left.mode x.mode (g.left r h).mode a e))

    pub stands : StandingMasks b n body C asked left'
    unfolding standing
    stands x k r small d =
        let w = (known_is C asked x).0 k in
        let o = object_of C asked x in
        let s = subject_of C asked x in
        let q : ℕ = mode_of x + 8 * as_bit d in
        bit_and_lem (bit_and (get_or left' o 0) (get_or left' (65 + s) 0)) (get_or left' (130 + q) 0) r
        ∙ ap₂ (λ (u v : Bool). u && v)
        (bit_and_lem (get_or left' o 0) (get_or left' (65 + s) 0) r
        ∙ ap₂ (λ (u v : Bool). u && v) (object-bit x w.0 r) (subject-bit x w.1 r))
        (mode-bit x w.2 w.3 r d)
        ∙ three_tests (ltb r n) (stands_on b (rule_at body r) x.object)
        (on_subject x.subject (rule_at body r))
        (beq (rule_at body r).left.negative d)
        (is_star (rule_at body r).left.mode || eqb (rule_at body r).left.mode x.mode)
        ∙ ap (λ (u : Bool). ltb r n && (u && beq (rule_at body r).left.negative d))
        (sym (stands_eq b (rule_at body r) x))

-- the starred rules are among the n
pub starred_below : {n subjects : ℕ} {sides left : List ℕ} → WrittenMasks n subjects sides left → (q : ℕ) →
    bit q (get_or left 151 0) ≡ true → q < n
starred_below {n} {sides = sides} w q e = true-le (suc q) n
    (and-true (ltb q n) (eqb (object_code sides q) 255) (sym (w.starred q) ∙ e)).0

-- of the base only owners and administrators are asked
pub stands_alike : (b c : Base) (n : ℕ) (body : List ℕ) (C : Chart) (asked : Access) (left : List ℕ) →
    ((o u : ℕ) → controls b o u ≡ controls c o u) → StandingMasks b n body C asked left →
    StandingMasks c n body C asked left
stands_alike b c n body C asked left e s x k r h d = s x k r h d
    ∙ ap (λ (u : Bool). ltb r n && (u && beq (rule_at body r).left.negative d))
    (stands_same b c (rule_at body r) x (e x.object (rule_at body r).author))
