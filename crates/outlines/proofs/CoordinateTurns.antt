-- Coordinates given one by one: what a store to the table makes (`added_none`, `added-one`), that the table
-- has coordinates of one rule more then (`numbered-turn`), and both tables in one slice (`both-subjects`,
-- `both-objects`).
use mathlib.Core.Path.{◌≡◌, refl, sym, ap, ◌∙◌}
use mathlib.Core.Bool.{Bool, true, false, not, ◌&&◌, ◌||◌}
use mathlib.Core.List.{List}
use Prim.Native.Nat.{ℕ, suc, ◌+◌, ◌≤◌, ◌<◌}
use native.Mathlib.Numerals.{add-one}
use native.Mathlib.Omega.{arith}
use lib.Dec.{eqb}
use lib.ListN.{length, get_or, set, take, length-set}
use lib.Seq.{get_or-set_same, get_or-set_other}
use Rattle.foundation.specs.Tests.{cases, true_eq, false_eq, eq_true, ne_false, not-true, and-true}
use Rattle.model.specs.declared.Rule.{Rule}
use Rattle.encoding.specs.Format.{rule_at}
use Rattle.sections.specs.Sections.{subjects_of, objects_of}
use Rattle.sections.proofs.SectionWrites.{put_back, back-length, back_own, back-before, back_rest, same_part}
use Rattle.outlines.specs.Coordinates.{unlisted, Added, named_in, HasCoordinates}

-- ---- both tables in their sections

-- y came back to the place of subjects, then z to that of objects
module _ (c y z : List ℕ) (long : length c ≡ 1666) (p : length y ≡ 1024) (q : length z ≡ 130) where
  abbrev half_back : List ℕ
  half_back = put_back c 512 1024 y

  abbrev after : List ℕ
  after = put_back half_back 1536 130 z

  half_long : length half_back ≡ 1666
  half_long = back-length c 512 1024 y (omega arith) p ∙ long

  inside : 1536 + 130 ≤ length half_back
  inside = omega (arith, half_long)

  pub both_long : length after ≡ 1666
  both_long = back-length half_back 1536 130 z inside q ∙ half_long

  pub both-subjects : subjects_of after ≡ y
  both-subjects = same_part half_back after (both_long ∙ sym half_long) 512 1024
      (λ k a b. back-before half_back 1536 130 z inside q k b)
      ∙ back_own c 512 1024 y (omega arith) p

  pub both-objects : objects_of after ≡ z
  both-objects = back_own half_back 1536 130 z inside q

  pub objects-between : objects_of half_back ≡ objects_of c
  objects-between = ap (take 130) (back_rest c 512 1024 y (omega arith) p)

  pub both_front : (k : ℕ) → k < 512 → get_or after k 0 ≡ get_or c k 0
  both_front k h = back-before half_back 1536 130 z inside q k (omega arith)
      ∙ back-before c 512 1024 y (omega arith) p k h

-- ---- one more coordinate

-- the code's test, turned round
turned_round : (a b : Bool) → not a && b ≡ not (a || not b)
turned_round true b = refl
turned_round false true = refl
turned_round false false = refl

abbrev left_out : List ℕ → ℕ → Bool
left_out U v = eqb v 0 || not (eqb (get_or U v 0) 0)

unlisted-not : (U : List ℕ) (v : ℕ) (t : Bool) → left_out U v ≡ t → unlisted U v ≡ not t
unlisted-not U v t e = turned_round (eqb v 0) (eqb (get_or U v 0) 0) ∙ ap not e

pub added_none : (U : List ℕ) (v next : ℕ) → left_out U v ≡ true → Added U v next U next
added_none U v next e =
    let f : unlisted U v ≡ false = unlisted-not U v true e in
    record { size = refl; at = λ w. rw f; count = rw f }

pub added_one : (U : List ℕ) (v next : ℕ) → v < length U → left_out U v ≡ false →
    Added U v next (set U v next) (next + 1)
added_one U v next h e =
    let f : unlisted U v ≡ true = unlisted-not U v false e in
    record {
      size = length-set U v next;
      at = λ w. rw f (cases (eqb w v)
          (λ q. rw (q, true_eq w v q) (get_or-set_same U v next 0 h))
          (λ q. rw q (get_or-set_other U v w next 0 (false_eq w v q))));
      count = rw f (add-one next);
    }

-- one rule more: one more that names something, if it does
named_one : (field : Rule → ℕ) (i : ℕ) (body : List ℕ) → eqb (field (rule_at body i)) 0 ≡ false →
    named_in field (suc i) body ≡ suc (named_in field i body)
unfolding named_in
named_one field i body e = rw e

named_more : (field : Rule → ℕ) (i : ℕ) (body : List ℕ) → named_in field i body ≤ named_in field (suc i) body
unfolding named_in
named_more field i body = cases (eqb (field (rule_at body i)) 0)
    (λ e. rw e (omega arith))
    (λ e. rw e (omega arith))

pub numbered_start : (field : Rule → ℕ) (body U : List ℕ) → ((v : ℕ) → get_or U v 0 ≡ 0) →
    HasCoordinates field 0 body U 1
numbered_start field body U z = record {
  some = omega arith;
  few = omega arith;
  fewer = omega arith;
  below = λ v. omega (arith, z v);
  apart = λ v w h e. absurd (omega (arith, z v));
  named = λ i h e. absurd (omega arith);
  onto = λ c h l. absurd (omega arith);
  star = z 0;
}

module _ {field : Rule → ℕ} {i : ℕ} {body U U' : List ℕ} {size size' : ℕ}
    (m : HasCoordinates field i body U size)
    (a : Added U (field (rule_at body i)) size U' size') where
  abbrev own : ℕ
  own = field (rule_at body i)

  module _ (f : unlisted U own ≡ true) where
    new-count : size' ≡ suc size
    new-count = a.count ∙ rw f

    new_own : get_or U' own 0 ≡ size
    new_own = a.at own ∙ rw (f, eq_true own own refl)

    new_other : (w : ℕ) → eqb w own ≡ false → get_or U' w 0 ≡ get_or U w 0
    new_other w q = a.at w ∙ rw (f, q)

    new-some : (w : ℕ) → 0 < get_or U w 0 → 0 < get_or U' w 0
    new-some w h = cases (eqb w own)
        (λ q. rw (true_eq w own q) (omega (arith, new_own, m.some)))
        (λ q. omega (arith, new_other w q))

    new_apart : (v w : ℕ) → 0 < get_or U' v 0 → get_or U' v 0 ≡ get_or U' w 0 → v ≡ w
    new_apart v w h e = cases (eqb v own)
        (λ p. cases (eqb w own)
        (λ q. true_eq v own p ∙ sym (true_eq w own q))
        (λ q. let k : get_or U' v 0 ≡ size = rw (true_eq v own p) new_own in
        absurd (omega (arith, new_other w q, m.below w))))
        (λ p. cases (eqb w own)
        (λ q. let k : get_or U' w 0 ≡ size = rw (true_eq w own q) new_own in
        absurd (omega (arith, new_other v p, m.below v)))
        (λ q. m.apart v w (omega (arith, new_other v p)) (omega (arith, new_other v p, new_other w q))))

    -- the new one is not 0 and had no coordinate
    free : (not (eqb own 0) ≡ true) × (eqb (get_or U own 0) 0 ≡ true)
    free = and-true (not (eqb own 0)) (eqb (get_or U own 0) 0) f

    new-star : get_or U' 0 0 ≡ 0
    new-star =
        let n = false_eq own 0 (not-true (eqb own 0) free.0) in
        new_other 0 (ne_false 0 own (λ z. n (sym z))) ∙ m.star

    new_kept : (v : ℕ) → 0 < get_or U v 0 → get_or U' v 0 ≡ get_or U v 0
    new_kept v h = new_other v (ne_false v own (λ z.
        omega (arith, ap (λ (w : ℕ). get_or U w 0) z, true_eq (get_or U own 0) 0 free.1)))

    new-onto : (c : ℕ) → 0 < c → c < size' → (v : ℕ) × (get_or U' v 0 ≡ c)
    new-onto c h l = cases (eqb c size)
        (λ q. (own, new_own ∙ sym (true_eq c size q)))
        (λ q. let ne = false_eq c size q in
        let o = m.onto c h (omega (arith, new-count)) in
        (o.0, new_kept o.0 (omega (arith, o.1)) ∙ o.1))

    new_numbered : HasCoordinates field (suc i) body U' size'
    new_numbered = record {
      some = omega (arith, new-count);
      few = omega (arith, new-count, m.few);
      fewer = omega (
        arith,
        new-count,
        m.fewer,
        named_one field i body (not-true (eqb own 0) free.0),
      );
      below = λ v. cases (eqb v own)
          (λ q. rw (true_eq v own q) (omega (arith, new_own, new-count)))
          (λ q. omega (arith, new_other v q, new-count, m.below v));
      apart = new_apart;
      named = λ j h e. cases (eqb j i)
          (λ q. rw (true_eq j i q) (omega (arith, new_own, m.some)))
          (λ q. let ne = false_eq j i q in new-some (field (rule_at body j)) (m.named j (omega arith) e));
      onto = new-onto;
      star = new-star;
    }

  old_numbered : unlisted U own ≡ false → HasCoordinates field (suc i) body U' size'
  old_numbered f =
      let s : size' ≡ size = a.count ∙ rw f in
      let o : (w : ℕ) → get_or U' w 0 ≡ get_or U w 0 = λ w. a.at w ∙ rw f in
      record {
        some = omega (arith, m.some);
        few = omega (arith, m.few);
        fewer = omega (arith, m.fewer, named_more field i body);
        below = λ v. omega (arith, o v, m.below v);
        apart = λ v w h e. m.apart v w (omega (arith, o v)) (omega (arith, o v, o w));
        named = λ j h e. cases (eqb j i)
            (λ q. let z = true_eq j i q in
            let e' : eqb own 0 ≡ false = ap (λ (k : ℕ). eqb (field (rule_at body k)) 0) (sym z) ∙ e in
            rw z (cases (eqb (get_or U own 0) 0)
            (λ n. absurd (let t : ◌≡◌ {A = Bool} true false =
            sym (rw (e', n)) ∙ f in let y : ◌≡◌ {A = ℕ} 0 1 = cc in omega arith))
            (λ n. let k = false_eq (get_or U own 0) 0 n in omega (arith, o own))))
            (λ q. let ne = false_eq j i q in omega (
              arith,
              o (field (rule_at body j)),
              m.named j (omega
                  arith) e,
            ));
        onto = λ c h l. let w = m.onto c h (omega arith) in (w.0, o w.0 ∙ w.1);
        star = o 0 ∙ m.star;
      }

  pub numbered_turn : HasCoordinates field (i + 1) body U' size'
  numbered_turn = rw (add-one i) (cases (unlisted U own) new_numbered old_numbered)
