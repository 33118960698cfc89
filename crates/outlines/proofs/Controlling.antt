-- Starred rules joined to the words of objects, one object after the other (`upto-none`, `upto_turn`,
-- `upto_all`).
use mathlib.Core.Path.{◌≡◌, refl, sym, ap, ap₂, ◌∙◌}
use mathlib.Core.Bool.{Bool, true, false, ◌&&◌, ◌||◌}
use mathlib.Core.List.{List}
use Prim.Native.Nat.{ℕ, suc, ◌+◌, ◌≤◌, ◌<◌}
use native.Mathlib.Omega.{arith}
use lib.Bits.{bit_or}
use lib.Dec.{eqb, ltb}
use lib.ListN.{length, get_or, get_or-eq_default}
use Rattle.foundation.specs.Tests.{pick, cases, agree, true_eq, eq_true, ne_false, true-le, false-le, le-true}
use Rattle.foundation.specs.Tests.{le-false, or_false, or_assoc}
use Rattle.foundation.specs.BitMasks.{bit, bit-zero}
use Rattle.foundation.specs.BitLaws.{bit_or_lem}
use Rattle.outlines.specs.Coordinates.{Apart}
use Rattle.outlines.specs.LeftMasks.{controlled_by, Controlled}
use Rattle.outlines.proofs.MaskWords.{gather_turn}

-- ---- one word

-- a word is joined to another
pub stored-word : (l l' : List ℕ) (at v : ℕ) →
    ((w : ℕ) → get_or l' w 0 ≡ pick (eqb w at) (bit_or (get_or l at 0) v) (get_or l w 0)) →
    (w r : ℕ) → bit r (get_or l' w 0) ≡ bit r (get_or l w 0) || (eqb w at && bit r v)
stored-word l l' at v e w r = ap (bit r) (e w) ∙ cases (eqb w at)
    (λ q. rw (q, true_eq w at q) (bit_or_lem (get_or l at 0) v r))
    (λ q. rw q (sym (or_false (bit r (get_or l w 0)))))

-- nothing is joined where there is no word
pub no_word : (w : ℕ) (x v : Bool) → 0 < w → x ≡ x || (eqb w 0 && v)
no_word w x v h = let e = ne_false w 0 (λ z. omega arith) in rw e (sym (or_false x))

-- ---- all objects

-- rule r is starred, and its author controls object v
abbrev starred_on : List ℕ → List ℕ → List ℕ → ℕ → ℕ → Bool
starred_on s body left r v = bit r (get_or left 151 0) && controlled_by s body v r

-- the objects before the v-th are done
pub record Upto (s body objects left : List ℕ) (v : ℕ) (left' : List ℕ) : Type 0 where
  pub object : (u r : ℕ) → 0 < get_or objects u 0 → bit r (get_or left' (get_or objects u 0) 0)
      ≡ bit r (get_or left (get_or objects u 0) 0) || (ltb u v && starred_on s body left r u)
  pub other : (w : ℕ) → 65 ≤ w → get_or left' w 0 ≡ get_or left w 0

pub upto_none : (s body objects left : List ℕ) → Upto s body objects left 0 left
upto_none s body objects left = record {
  object = λ u r h. let e : ltb u 0 ≡ false = le-false (suc u) 0 (omega arith) in
      rw e (sym (or_false (bit r (get_or left (get_or objects u 0) 0))));
  other = λ w h. refl;
}

pub upto_turn : {s body objects left l l' : List ℕ} {v : ℕ} → Apart objects → Upto s body objects left v l →
    ((w r : ℕ) → 0 < w → bit r (get_or l' w 0) ≡ bit r (get_or l w 0)
    || (eqb w (get_or objects v 0) && starred_on s body left r v)) →
    ((w : ℕ) → 65 ≤ w → get_or l' w 0 ≡ get_or l w 0) → Upto s body objects left (v + 1) l'
upto_turn {s} {body} {objects} {left} {l} {l'} {v} p m e k = record {
  object = λ u r h.
      let w = get_or objects u 0 in
      let a = bit r (get_or left w 0) in
      let t : ℕ → Bool = λ j. starred_on s body left r j in
      e w r h
      ∙ ap₂ (λ (x y : Bool). x || (y && t v)) (m.object u r h) (same u h)
      ∙ or_assoc a (ltb u v && t u) (eqb u v && t v)
      ∙ ap (λ (x : Bool). a || x) (gather_turn t v u);
  other = λ w h. k w h ∙ m.other w h;
}
  where
    same : (u : ℕ) → 0 < get_or objects u 0 → eqb (get_or objects u 0) (get_or objects v 0) ≡ eqb u v
    same u h = agree (eqb (get_or objects u 0) (get_or objects v 0)) (eqb u v)
        (λ y. eq_true u v (p.apart u v h (true_eq (get_or objects u 0) (get_or objects v 0) y)))
        (λ y. eq_true (get_or objects u 0) (get_or objects v 0)
        (ap (λ (j : ℕ). get_or objects j 0) (true_eq u v y)))

pub upto_all : {s body objects left l : List ℕ} {v : ℕ} → length objects ≤ v → Upto s body objects left v l →
    Controlled s body objects left l
upto_all {s} {body} {objects} {left} {l} {v} h m = record {
  object = λ u r k. let e : ltb u v ≡ true = le-true (suc u) v (inside u k) in
      m.object u r k ∙ rw e;
  other = m.other;
}
  where
    inside : (u : ℕ) → 0 < get_or objects u 0 → u < v
    inside u k = cases (ltb u v)
        (λ e. true-le (suc u) v e)
        (λ e. let a = false-le (suc u) v e in
        absurd (omega (arith, get_or-eq_default objects 0 {n = u} (omega arith))))

-- where no rule is starred
pub none_starred : (s body objects left : List ℕ) → get_or left 151 0 ≡ 0 → Controlled s body objects left left
none_starred s body objects left z = record {
  object = λ v r h. let e : bit r (get_or left 151 0) ≡ false = ap (bit r) z ∙ bit-zero r in
      rw e (sym (or_false (bit r (get_or left (get_or objects v 0) 0))));
  other = λ w h. refl;
}
