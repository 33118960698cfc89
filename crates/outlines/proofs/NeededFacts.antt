-- What a question can rest on, as accesses: with an access those on the right of the rules that stand for it
-- (`needed-right`).
use mathlib.Core.Path.{◌≡◌, sym, ◌∙◌}
use mathlib.Core.Bool.{Bool, true, ◌&&◌, beq}
use mathlib.Core.List.{List}
use Prim.Native.Nat.{ℕ, suc, ◌+◌, ◌*◌, ◌%◌, ◌<◌}
use native.Mathlib.Omega.{arith}
use lib.Dec.{ltb}
use Rattle.foundation.specs.Tests.{cases, le-true, and_intro, and_three, beq_self}
use Rattle.foundation.specs.Quotients.{quotient_back, rest_back}
use Rattle.foundation.specs.BitMasks.{as_bit, bit, bit_le}
use Rattle.model.specs.declared.Access.{Access}
use Rattle.model.specs.Base.{Base}
use Rattle.model.specs.Rules.{stands_for, right_of}
use Rattle.encoding.specs.Format.{rule_at}
use Rattle.reach.specs.Net.{right_needs, has, ClosedNet}
use Rattle.outlines.specs.Coordinates.{WellFormed, Chart, Charted, subject_of, object_of, known, mode_of}
use Rattle.outlines.specs.Coordinates.{pair_of}
use Rattle.outlines.proofs.CoordinateFacts.{known_is}
use Rattle.outlines.specs.NeededAccesses.{needed}
use Rattle.outlines.specs.Outline.{RightSides, StandingMasks}
use Rattle.outlines.proofs.RightAccesses.{right_pair_lem, right_known, right_needs_lem}

module _ (C : Chart) (asked : Access) (need : List ℕ) where
  pub needed-known : (x : Access) → needed C asked need x ≡ true → known C asked x ≡ true
  unfolding needed
  needed-known x e = ((and_three (known C asked x) (has need (pair_of C asked x) (mode_of x))
      (has need (pair_of C asked x) (8 + mode_of x))).0 e).0

  -- with either sign
  pub needed-bit : (x : Access) → needed C asked need x ≡ true → (g : Bool) →
      has need (pair_of C asked x) (mode_of x + 8 * as_bit g) ≡ true
  unfolding needed
  needed-bit x e g =
      let w = (and_three (known C asked x) (has need (pair_of C asked x) (mode_of x))
      (has need (pair_of C asked x) (8 + mode_of x))).0 e in
      let p : mode_of x + 8 * 1 ≡ 8 + mode_of x = omega arith in
      let q : mode_of x + 8 * 0 ≡ mode_of x = omega arith in
      cases g (λ y. rw (y, p) w.2) (λ y. rw (y, q) w.1)

  pub needed-both : (x : Access) → known C asked x ≡ true → has need (pair_of C asked x) (mode_of x) ≡ true →
      has need (pair_of C asked x) (8 + mode_of x) ≡ true → needed C asked need x ≡ true
  unfolding needed
  needed-both x k p q = (and_three (known C asked x) (has need (pair_of C asked x) (mode_of x))
      (has need (pair_of C asked x) (8 + mode_of x))).1 (k, p, q)

module _ {n : ℕ} {body : List ℕ} (g : WellFormed n body) (C : Chart) (t : Charted n body C) (left right : List
    ℕ)
    (codes : RightSides C.subjects C.objects n body right) (asked : Access) (b : Base)
    (stands : StandingMasks b n body C asked left) (need : List ℕ)
    (closed : ClosedNet (record { left = left; right = right; subjects = C.width }) need) where
  pub needed_right : (r : ℕ) → r < n → (x : Access) → stands_for b (rule_at body r) x ≡ true →
      needed C asked need x ≡ true → needed C asked need (right_of (rule_at body r) x).access ≡ true
  needed_right r h x s e =
      let k = needed-known C asked need x e in
      let p = (known_is C asked x).0 k in
      let sign = (rule_at body r).left.negative in
      let q : ℕ = mode_of x + 8 * as_bit sign in
      let y = (right_of (rule_at body r) x).access in
      let f : q % 8 ≡ mode_of x = omega (arith, bit_le sign) in
      let o = quotient_back (object_of C asked x) C.width (subject_of C asked x) p.1 in
      let u = rest_back (object_of C asked x) C.width (subject_of C asked x) p.1 in
      let there = stands x k r (omega (arith, g.few)) sign
      ∙ and_intro (ltb r n) (stands_for b (rule_at body r) x && beq sign sign) (le-true (suc r) n h)
      (and_intro (stands_for b (rule_at body r) x) (beq sign sign) s (beq_self sign)) in
      let follow : (c : ℕ) → bit c (right_needs right r (mode_of x)) ≡ true → has need (pair_of C asked y) c ≡
      true =
      λ c d. rw (sym (right_pair_lem g C t right codes asked r h x))
      (rw (o, u, f) at (closed (pair_of C asked x) q (needed-bit C asked need x e sign) r
      (omega (arith, g.few)) (rw (o, u) there)) c d) in
      let v = right_needs_lem g C t right codes asked r h x in
      needed-both C asked need y (right_known g C t right codes asked r h x k)
      (follow (mode_of y) v.0) (follow (8 + mode_of y) v.1)
