-- Bytes written back as they were read: a byte (`byte-kept`), a number (`number-kept`), zeros (`zeros-kept`),
-- a body of records (`body_kept`). A number by its bytes (`le-suc`, `le-add`) and at a place (`le-at`). What
-- stands behind a body, and at a record's place in it (`behind-at`,
-- `record-in`). What one write changes (`set_word`), and what lies behind (`rest-behind`).
use Rattle.std.specs.Prelude.{◌≡◌, refl, ℕ, zero, suc, ◌+◌, ◌*◌, ◌/◌, ◌%◌, ◌^◌, ◌≤◌, ◌<◌, ◌-◌, Bool, true, ◌&&◌, List, [], ◌∷◌, ◌++◌, eqb, length, take, drop, get_or, replicate, set}
use Rattle.std.proofs.Common.{sym, ap, ◌∙◌, inl, inr, mul-zero, mul-suc, mul_assoc, not-suc-le-zero, le_of_suc-le-suc, zero-add, suc-add, arith, append_assoc, length-drop, take-append-drop, drop-cons, drop-drop, get_or-drop, get_or-set_same, get_or-set_other}
use Rattle.std.proofs.Math.Nat.{pow-succ'}
use Rattle.std.proofs.Math.Seq.{drop-nil, drop-append-add}
use Rattle.std.proofs.lemmas.List.{drop-append-le}
use Rattle.foundation.specs.Tests.{cases, and-true, true_eq, false_eq, pick}
use Rattle.foundation.specs.Lists.{Mem, each}
use Rattle.foundation.specs.Bytes.{le, bytes_of, records}

-- every element is a byte
abbrev pub Bytes : List ℕ → Type 0
Bytes s = (i : ℕ) → get_or s i 0 < 256

pub bytes_drop : (n : ℕ) (s : List ℕ) → Bytes s → Bytes (drop n s)
bytes_drop n s h i = rw (get_or-drop n s i 0) (h (n + i))

pub mem_bytes : (s : List ℕ) → ((n : ℕ) → Mem n s → n < 256) → Bytes s
mem_bytes [] h i = omega arith
mem_bytes (x ∷ s) h zero = h x (inl refl)
mem_bytes (x ∷ s) h (suc i) = mem_bytes s (λ n m. h n (inr m)) i

-- a test that passes of each number below n
abbrev pub each_below : ℕ → (ℕ → Bool) → Bool
each_below zero p = true
each_below (suc n) p = p n && each_below n p

pub each_below_lem : (n : ℕ) (p : ℕ → Bool) → each_below n p ≡ true → (g : ℕ) → g < n → p g ≡ true
each_below_lem zero p e g h = absurd (not-suc-le-zero h)
each_below_lem (suc n) p e g h =
    let t = and-true (p n) (each_below n p) e in
    cases (eqb g n) (λ q. rw (true_eq g n q) t.0)
    (λ q. let d = false_eq g n q in each_below_lem n p t.1 g (omega (arith, d)))

-- ---- numbers

-- the number that stands in w bytes, written
bytes_of-le : (w : ℕ) (s : List ℕ) → w ≤ length s → Bytes s → bytes_of w (le w s) ≡ take w s
bytes_of-le zero s h k = refl
bytes_of-le (suc w) [] h k = absurd (not-suc-le-zero h)
bytes_of-le (suc w) (b ∷ s) h k =
    let l : b < 256 = k 0 in
    let m : (b + 256 * le w s) % 256 ≡ b = omega arith in
    let d : (b + 256 * le w s) / 256 ≡ le w s = omega arith in
    λ i. m i ∷ (ap (bytes_of w) d ∙ bytes_of-le w s (le_of_suc-le-suc h) (λ j. k (suc j))) i

-- the same at a place
pub bytes_of-le_at : (w o : ℕ) (s : List ℕ) → o + w ≤ length s → Bytes s →
    bytes_of w (le w (drop o s)) ≡ take w (drop o s)
bytes_of-le_at w o s h k = bytes_of-le w (drop o s) (rw (length-drop o s) (omega arith)) (bytes_drop o s k)

-- with what stands behind it
pub number_kept : (w at : ℕ) (s : List ℕ) → at + w ≤ length s → Bytes s →
    bytes_of w (le w (drop at s)) ++ drop (at + w) s ≡ drop at s
number_kept w at s h b =
    ap (λ (t : List ℕ). t ++ drop (at + w) s) (bytes_of-le_at w at s h b)
    ∙ ap (λ (t : List ℕ). take w (drop at s) ++ t) (sym (drop-drop w at s))
    ∙ take-append-drop w (drop at s)

-- a number depends on its own bytes
pub le_own : (w : ℕ) (x y : List ℕ) → w ≤ length x → le w (x ++ y) ≡ le w x
le_own zero x y h = refl
le_own (suc w) [] y h = absurd (not-suc-le-zero h)
le_own (suc w) (b ∷ x) y h = ap (λ (n : ℕ). b + 256 * n) (le_own w x y (le_of_suc-le-suc h))

pub field_own : (w o : ℕ) (x y : List ℕ) → o + w ≤ length x → le w (drop o (x ++ y)) ≡ le w (drop o x)
field_own w o x y h =
    ap (le w) (drop-append-le o x y (omega arith))
    ∙ le_own w (drop o x) y (rw (length-drop o x) (omega arith))

pub le_nil : (w : ℕ) → le w [] ≡ 0
le_nil zero = refl
le_nil (suc w) = refl

-- one byte, and those after it
pub le-suc : (w : ℕ) (s : List ℕ) (at : ℕ) →
    le (suc w) (drop at s) ≡ get_or s at 0 + 256 * le w (drop (at + 1) s)
le-suc w [] at = rw (drop-nil at, drop-nil (at + 1), le_nil w)
le-suc w (b ∷ s) zero = refl
le-suc w (b ∷ s) (suc at) = rw (suc-add at 1) (le-suc w s at)

-- v bytes, and w after them
pub le_add : (v w : ℕ) (s : List ℕ) → le (v + w) s ≡ le v s + 256 ^ v * le w (drop v s)
le_add zero w s = rw (zero-add w) (omega arith)
le_add (suc v) w [] = rw (suc-add v w, le_nil w) (omega arith)
le_add (suc v) w (b ∷ s) =
    rw (suc-add v w, le_add v w s, pow-succ' 256 v, mul_assoc 256 (256 ^ v) (le w (drop v s))) (omega arith)

-- v bytes at a place, and w after them
pub le_add_at : (v w : ℕ) (s : List ℕ) (at : ℕ) →
    le (v + w) (drop at s) ≡ le v (drop at s) + 256 ^ v * le w (drop (at + v) s)
le_add_at v w s at = le_add v w (drop at s) ∙ rw (drop-drop v at s)

-- a field of a record that starts at `at`
pub le_at : (w : ℕ) (s : List ℕ) (at o : ℕ) → le w (drop (at + o) s) ≡ le w (drop o (drop at s))
le_at w s at o = ap (le w) (sym (drop-drop o at s))

-- a byte that is written as it stands
pub byte_kept : (n at : ℕ) (s : List ℕ) → at < length s → n ≡ get_or s at 0 → n ∷ drop (suc at) s ≡ drop at s
byte_kept n at s h e = ap (λ (x : ℕ). x ∷ drop (suc at) s) e ∙ sym (drop-cons s at 0 h)

pub zeros_kept : (s : List ℕ) → ((i : ℕ) → i < length s → get_or s i 0 ≡ 0) → replicate (length s) 0 ≡ s
zeros_kept [] h = refl
zeros_kept (x ∷ s) h =
    λ i. sym (h 0 (omega arith)) i ∷ zeros_kept s (λ j l. h (suc j) (omega arith)) i

-- ---- records

-- `one`: a clean record is kept
module _ {A : Type 0} (w : ℕ) (f : List ℕ → A) (enc : A → List ℕ) (Clean : List ℕ → Type 0)
    (one : (s : List ℕ) → w ≤ length s → Bytes s → Clean s → enc (f s) ++ drop w s ≡ s) where
  records_kept : (n : ℕ) (s : List ℕ) → w * n ≤ length s → Bytes s →
      ((i : ℕ) → i < n → Clean (drop (w * i) s)) →
      each (records w f n s) enc ++ drop (w * n) s ≡ s
  records_kept zero s h b c = rw (mul-zero w)
  records_kept (suc n) s h b c =
      let q : (i : ℕ) → w * suc i ≡ w + w * i = λ i. rw (mul-suc w i) (omega arith) in
      let l : w + w * n ≤ length s = rw (← q n) h in
      let first : Clean s = rw (mul-zero w) at (c 0 (omega arith)) in
      let rest = each (records w f n (drop w s)) enc in
      append_assoc (enc (f s)) rest (drop (w * suc n) s)
      ∙ ap (λ (u : List ℕ). enc (f s) ++ (rest ++ u))
      (ap (λ (m : ℕ). drop m s) (q n) ∙ sym (drop-drop (w * n) w s))
      ∙ ap (λ (u : List ℕ). enc (f s) ++ u)
      (records_kept n (drop w s) (rw (length-drop w s) (omega arith)) (bytes_drop w s b)
      (λ i k. rw (drop-drop (w * i) w s, ← q i) (c (suc i) (omega arith))))
      ∙ one s (omega arith) b first

  -- the body of n clean records that stands at a place of s, and from there on t
  pub body_kept : (n at : ℕ) (s t : List ℕ) → t ≡ drop at s → at + w * n ≤ length s → Bytes s →
      ((i : ℕ) → i < n → Clean (drop (at + w * i) s)) → each (records w f n t) enc ++ drop (w * n) t ≡ t
  body_kept n at s t e h b c = rw e (records_kept n (drop at s) (rw (length-drop at s) (omega arith))
      (bytes_drop at s b) (λ i l. rw (drop-drop (w * i) at s) (c i l)))

-- behind n records of w bytes
pub behind_at : (w n at to : ℕ) (s t : List ℕ) → t ≡ drop at s → to ≡ at + w * n → drop (w * n) t ≡ drop to s
behind_at w n at to s t e q = ap (drop (w * n)) e ∙ drop-drop (w * n) at s ∙ ap (λ (k : ℕ). drop k s) (sym q)

-- at its place in a body stands the record
pub record_in : {A : Type 0} (enc : A → List ℕ) (w : ℕ) → ((x : A) → length (enc x) ≡ w) →
    (xs : List A) (rest : List ℕ) (i : ℕ) → i < length xs →
    (x : A) × (y : List ℕ) × (drop (w * i) (each xs enc ++ rest) ≡ enc x ++ y)
record_in enc w wide [] rest i h = absurd (not-suc-le-zero h)
record_in enc w wide (x ∷ xs) rest zero h =
    (x, each xs enc ++ rest, rw (mul-zero w) (append_assoc (enc x) (each xs enc) rest))
record_in enc w wide (x ∷ xs) rest (suc i) h =
    let r = record_in enc w wide xs rest i (le_of_suc-le-suc h) in
    let q : w * suc i ≡ w + w * i = rw (mul-suc w i) (omega arith) in
    let body = each xs enc ++ rest in (
      r.0,
      r.1,
      ap (drop (w * suc i)) (append_assoc (enc x) (each xs enc) rest)
          ∙ ap (λ (n : ℕ). drop n (enc x ++ body)) (q ∙ ap (λ (n : ℕ). n + w * i) (sym (wide x)))
          ∙ drop-append-add (enc x) body (w * i) ∙ r.2,
    )

-- ---- after a write

pub set_word : (l : List ℕ) (at v : ℕ) → at < length l → (k : ℕ) →
    get_or (set l at v) k 0 ≡ pick (eqb k at) v (get_or l k 0)
set_word l at v h k = cases (eqb k at)
    (λ e. rw (e, true_eq k at e) (get_or-set_same l at v 0 h))
    (λ e. rw e (get_or-set_other l at k v 0 (false_eq k at e)))

-- lists that are the same from a place on are so from a later one on
pub rest_behind : (l l' : List ℕ) (a b : ℕ) → a ≤ b → drop a l' ≡ drop a l → drop b l' ≡ drop b l
rest_behind l l' a b h e =
    let q : a + (b - a) ≡ b = omega arith in
    ap (λ (j : ℕ). drop j l') (sym q) ∙ sym (drop-drop (b - a) a l') ∙ ap (drop (b - a)) e
    ∙ drop-drop (b - a) a l ∙ ap (λ (j : ℕ). drop j l) q
