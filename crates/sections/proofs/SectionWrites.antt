-- Sections of a slice after a write: those that were not written are as they were (`same-part`), and one that
-- was lent and came back is in its place (`back-own`).
use mathlib.Core.Path.{◌≡◌, refl, sym, ap, ◌∙◌}
use mathlib.Core.List.{List, [], ◌∷◌, ◌++◌}
use Prim.Native.Nat.{ℕ, suc, ◌+◌, ◌≤◌, ◌<◌}
use native.Mathlib.Omega.{arith}
use native.Mathlib.Nat.{min-le_left}
use lib.Dec.{eqb, ltb}
use lib.ListN.{length, get_or, take, drop, length-take, length-drop, length-append}
use lib.ListN.{get_or-eq_default, get_or-append}
use lib.Seq.{take-take}
use lib.Seq.{get_or-take, get_or-drop, ext_get_or, drop-drop, take_at, drop_at, length-take-le}
use Rattle.foundation.specs.Tests.{pick, cases, true_eq, false_eq, eq_true, ne_false, true-le, false-le}

-- ---- words of a section

pub in_part : (a w : ℕ) (l : List ℕ) (k : ℕ) → k < w → get_or (take w (drop a l)) k 0 ≡ get_or l (a + k) 0
in_part a w l k h = get_or-take w (drop a l) k 0 h ∙ get_or-drop a l k 0

pub beyond_part : (w : ℕ) (l : List ℕ) (k : ℕ) → w ≤ k → get_or (take w l) k 0 ≡ 0
beyond_part w l k h = get_or-eq_default (take w l) 0 {n = k}
    (omega (arith, length-take w l, min-le_left w (length l)))

-- where all is 0
pub zero-part : (a w : ℕ) (l : List ℕ) → ((k : ℕ) → get_or l k 0 ≡ 0) → (k : ℕ) →
    get_or (take w (drop a l)) k 0 ≡ 0
zero-part a w l z k = cases (ltb k w)
    (λ e. in_part a w l k (true-le (suc k) w e) ∙ z (a + k))
    (λ e. beyond_part w (drop a l) k (let h = false-le (suc k) w e in omega arith))

pub part_long : (a w : ℕ) (l : List ℕ) → a + w ≤ length l → length (take w (drop a l)) ≡ w
part_long a w l h = length-take-le w (drop a l) (omega (arith, length-drop a l))

-- ---- sections whose words are as they were

module _ (l l' : List ℕ) (long : length l' ≡ length l) where
  pub same_front : (w : ℕ) → ((k : ℕ) → k < w → get_or l' k 0 ≡ get_or l k 0) → take w l' ≡ take w l
  same_front w e = ext_get_or 0 (take w l') (take w l)
      (length-take w l' ∙ rw long (sym (length-take w l)))
      (λ k h. let b : k < w = omega (arith, length-take w l', min-le_left w (length l')) in
      get_or-take w l' k 0 b ∙ e k b ∙ sym (get_or-take w l k 0 b))

  pub same_rest : (a : ℕ) → ((k : ℕ) → a ≤ k → get_or l' k 0 ≡ get_or l k 0) → drop a l' ≡ drop a l
  same_rest a e = ext_get_or 0 (drop a l') (drop a l)
      (length-drop a l' ∙ rw long (sym (length-drop a l)))
      (λ k h. get_or-drop a l' k 0 ∙ e (a + k) (omega arith) ∙ sym (get_or-drop a l k 0))

-- one that begins at a
pub same_part : (l l' : List ℕ) → length l' ≡ length l → (a w : ℕ) →
    ((k : ℕ) → a ≤ k → k < a + w → get_or l' k 0 ≡ get_or l k 0) → take w (drop a l') ≡ take w (drop a l)
same_part l l' long a w e =
    same_front (drop a l) (drop a l') (length-drop a l' ∙ rw long (sym (length-drop a l))) w
    (λ k h. get_or-drop a l' k 0 ∙ e (a + k) (omega arith) (omega arith) ∙ sym (get_or-drop a l k 0))

-- ---- one word of a section was written

pub part-word : (a w : ℕ) (l l' : List ℕ) (i v : ℕ) → i < w →
    ((k : ℕ) → get_or l' k 0 ≡ pick (eqb k (a + i)) v (get_or l k 0)) → (k : ℕ) →
    get_or (take w (drop a l')) k 0 ≡ pick (eqb k i) v (get_or (take w (drop a l)) k 0)
part-word a w l l' i v h e k = cases (ltb k w)
    (λ q. in_part a w l' k (true-le (suc k) w q) ∙ e (a + k)
    ∙ rw (in_part a w l k (true-le (suc k) w q)) (cases (eqb k i)
    (λ y. let z = true_eq k i y in rw (y, eq_true (a + k) (a + i) (omega arith)))
    (λ y. let z = false_eq k i y in rw (y, ne_false (a + k) (a + i) (λ x. z (omega arith))))))
    (λ q. let b : w ≤ k = (let y = false-le (suc k) w q in omega arith) in
    beyond_part w (drop a l') k b
    ∙ rw (ne_false k i (λ x. omega arith)) (sym (beyond_part w (drop a l) k b)))

-- ---- a section that was lent and came back as y

abbrev pub put_back : List ℕ → ℕ → ℕ → List ℕ → List ℕ
put_back l a w y = take a l ++ (y ++ drop w (drop a l))

module _ (l : List ℕ) (a w : ℕ) (y : List ℕ) (h : a + w ≤ length l) (e : length y ≡ w) where
  front_long : length (take a l) ≡ a
  front_long = length-take-le a l (omega arith)

  pub back-length : length (put_back l a w y) ≡ length l
  back-length = omega (
    arith,
    front_long,
    length-append (take a l) (y ++ drop w (drop a l)),
    length-append y (drop w (drop a l)),
    length-drop w (drop a l),
    length-drop a l,
  )

  pub back_own : take w (drop a (put_back l a w y)) ≡ y
  back_own = ap (take w) (drop_at (take a l) (y ++ drop w (drop a l)) a front_long)
      ∙ take_at y (drop w (drop a l)) w e

  pub back-before : (k : ℕ) → k < a → get_or (put_back l a w y) k 0 ≡ get_or l k 0
  back-before k b = get_or-append (take a l) (y ++ drop w (drop a l)) 0 k (omega (arith, front_long))
      ∙ get_or-take a l k 0 b

  pub back_rest : drop (a + w) (put_back l a w y) ≡ drop (a + w) l
  back_rest = sym (drop-drop w a (put_back l a w y))
      ∙ ap (drop w) (drop_at (take a l) (y ++ drop w (drop a l)) a front_long)
      ∙ drop_at y (drop w (drop a l)) w e ∙ drop-drop w a l

-- ---- a section of a front

pub front_part : (a w n : ℕ) (l : List ℕ) → a + w ≤ n → take w (drop a (take n l)) ≡ take w (drop a l)
front_part ℕ.zero w n l h = take-take w n l (omega arith)
front_part (suc a) w ℕ.zero l h = absurd (omega arith)
front_part (suc a) w (suc n) [] h = refl
front_part (suc a) w (suc n) (x ∷ xs) h = front_part a w n xs (omega arith)

-- where the front is as it was, so is each of its sections
pub front_same : (a w n : ℕ) (l l' : List ℕ) → a + w ≤ n → take n l' ≡ take n l →
    take w (drop a l') ≡ take w (drop a l)
front_same a w n l l' h e = sym (front_part a w n l' h) ∙ ap (λ (k : List ℕ). take w (drop a k)) e
    ∙ front_part a w n l h
