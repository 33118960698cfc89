-- The laws of `bytes_of` and `splice`, at any width. Assumes nothing.
use mathlib.Core.Path.{◌≡◌, refl, sym, ap, ◌∙◌}
use mathlib.Core.List.{List, [], ◌∷◌, ◌++◌, append_assoc}
use Prim.Native.Nat.{ℕ, zero, suc, ◌+◌, ◌*◌, ◌/◌, ◌%◌, ◌^◌, ◌-◌, ◌≤◌, ◌<◌}
use native.Mathlib.Nat.{sub-zero, zero-sub, suc-sub-suc, le_trans, le-add_right, add-sub_of_le, add_assoc}
use native.Mathlib.Nat.{zero-add, suc-add, pow-succ', pow-suc, div-one, div-div-eq-div-mul}
use native.Mathlib.Omega.{arith}
use lib.Dec.{lit<}
use lib.Arith.{mod-mul, digits_div, digits_mod}
use lib.ListN.{length, take, drop, get_or, set, length-append, length-take, length-drop, get_or-append}
use lib.Seq.{take_at, drop_at, length-take-le, drop-drop, sets, sets-eq, take-take}
use lib.Seq.{take-nil, take-add, get_or-take, drop-cons, take-suc, set_at}
use Rattle.foundation.specs.Bytes.{bytes_of, length-bytes_of}
use Rattle.fields.specs.Field.{splice, gapped}

-- ---- numbers

pub pow_pos' : (v : ℕ) → 0 < 256 ^ v
pow_pos' zero = lit< tt
pow_pos' (suc v) = let h : 0 < 256 ^ v = pow_pos' v in rw (pow-succ' 256 v) (omega arith)

-- ---- bytes put in a place

pub length-splice : (at : ℕ) (bs s : List ℕ) → at + length bs ≤ length s → length (splice at bs s) ≡ length s
unfolding splice
length-splice at bs s h = simp (length-append, length-take, length-drop) (omega arith)

-- two runs, the second right behind the first, are one
pub splice-join : (at : ℕ) (a b s : List ℕ) → at + length a ≤ length s →
    splice (at + length a) b (splice at a s) ≡ splice at (a ++ b) s
unfolding splice
splice-join at a b s h =
    let p : List ℕ = take at s ++ a in
    let r : List ℕ = drop (at + length a) s in
    let i : at ≤ length s = omega arith in
    let lp : length (take at s ++ a) ≡ at + length a = length-append (take at s) a
    ∙ ap (λ (n : ℕ). n + length a) (length-take-le at s i) in
    let e : drop (at + length a + length b) (p ++ r) ≡ drop (at + length a + length b) s =
    sym (drop-drop (length b) (at + length a) (p ++ r))
    ∙ ap (drop (length b)) (drop_at p r (at + length a) lp) ∙ drop-drop (length b) (at + length a) s in
    (λ k. take_at p r (at + length a) lp k ++ b ++ e k)
    ∙ rw (append_assoc (take at s) a b, length-append a b, add_assoc at (length a) (length b))

-- what a run of stores leaves
pub stores : (at : ℕ) (bs s : List ℕ) → at + length bs ≤ length s → sets s at bs ≡ splice at bs s
unfolding splice
stores at bs s h = sets-eq bs s at h

-- a number that was put is read back, and one elsewhere is as it was
pub drop-splice : (at : ℕ) (bs s : List ℕ) → at + length bs ≤ length s →
    drop at (splice at bs s) ≡ bs ++ drop (at + length bs) s
unfolding splice
drop-splice at bs s h = rw (append_assoc (take at s) bs (drop (at + length bs) s))
    (drop_at (take at s) (bs ++ drop (at + length bs) s) at (length-take-le at s (omega arith)))

-- the lowest v bytes depend on the remainder alone
pub bytes_of_mod : (v n : ℕ) → bytes_of v (n % 256 ^ v) ≡ bytes_of v n
bytes_of_mod zero n = refl
bytes_of_mod (suc v) n =
    let e : n % 256 ^ suc v ≡ (n / 256 % 256 ^ v) * 256 + n % 256 =
    rw (pow-suc 256 v) (mod-mul n (pow_pos' v) (lit< tt)) in
    let m : n % 256 < 256 = omega arith in
    let d : n % 256 ^ suc v / 256 ≡ n / 256 % 256 ^ v = ap (λ (k : ℕ). k / 256) e
    ∙ digits_div (n / 256 % 256 ^ v) m in
    let r : n % 256 ^ suc v % 256 ≡ n % 256 = ap (λ (k : ℕ). k % 256) e ∙ digits_mod (n / 256 % 256 ^ v) m in
    λ k. r k ∷ (ap (bytes_of v) d ∙ bytes_of_mod v (n / 256)) k

pub bytes_of_add : (v w n : ℕ) → bytes_of (v + w) n ≡ bytes_of v n ++ bytes_of w (n / 256 ^ v)
bytes_of_add zero w n = rw (zero-add w) (ap (bytes_of w) (sym (div-one n)))
bytes_of_add (suc v) w n =
    rw (suc-add v w) (ap (λ (l : List ℕ). n % 256 ∷ l) (bytes_of_add v w (n / 256)
    ∙ ap (λ (k : ℕ). bytes_of v (n / 256) ++ bytes_of w k) (div-div-eq-div-mul n 256 (256 ^ v)
    ∙ ap (λ (k : ℕ). n / k) (sym (pow-succ' 256 v)))))

-- a number put in two steps: v bytes, and w after them
pub put-join : (v w at n : ℕ) (s : List ℕ) → at + v ≤ length s
    → splice (at + v) (bytes_of w (n / 256 ^ v)) (splice at (bytes_of v (n % 256 ^ v)) s)
    ≡ splice at (bytes_of (v + w) n) s
put-join v w at n s h =
    let j : splice (at + length (bytes_of v n)) (bytes_of w (n / 256 ^ v)) (splice at (bytes_of v n) s)
    ≡ splice at (bytes_of v n ++ bytes_of w (n / 256 ^ v)) s =
    splice-join at (bytes_of v n) (bytes_of w (n / 256 ^ v)) s (rw (length-bytes_of v n) h) in
    rw (bytes_of_mod v n, bytes_of_add v w n)
    (ap (λ (i : ℕ). splice (at + i) (bytes_of w (n / 256 ^ v)) (splice at (bytes_of v n) s))
    (sym (length-bytes_of v n)) ∙ j)

-- ---- bytes moved

suc-sub : {w j : ℕ} → w ≤ j → suc (j - w) ≡ suc j - w
suc-sub h = omega arith

-- a turn of `move_up`: the byte w places below is stored at j
pub up_step : (s : List ℕ) (w j : ℕ) → w ≤ j → j < length s
    → set (take (suc j) s ++ drop (suc j - w) (take (length s - w) s)) j
    (get_or (take (suc j) s ++ drop (suc j - w) (take (length s - w) s)) (j - w) 0)
    ≡ take j s ++ drop (j - w) (take (length s - w) s)
up_step s w j h k =
    let m : List ℕ = take (length s - w) s in
    let r : List ℕ = drop (suc j - w) m in
    let lm : length m ≡ length s - w = length-take-le (length s - w) s (omega arith) in
    let lt : length (take (suc j) s) ≡ suc j = length-take-le (suc j) s k in
    let g : get_or (take (suc j) s ++ r) (j - w) 0 ≡ get_or s (j - w) 0 =
    get_or-append (take (suc j) s) r 0 (j - w) (rw lt (omega arith))
    ∙ get_or-take (suc j) s (j - w) 0 (omega arith) in
    let g' : get_or m (j - w) 0 ≡ get_or s (j - w) 0 = get_or-take (length s - w) s (j - w) 0 (omega arith) in
    let d : drop (j - w) m ≡ get_or s (j - w) 0 ∷ drop (suc j - w) m =
    drop-cons m (j - w) 0 (rw lm (omega arith)) ∙ (λ i. g' i ∷ drop (suc-sub h i) m) in
    ap (set (take (suc j) s ++ r) j) g
    ∙ ap (λ (x : List ℕ). set (x ++ r) j (get_or s (j - w) 0)) (take-suc s j 0 k)
    ∙ ap (λ (x : List ℕ). set x j (get_or s (j - w) 0)) (append_assoc (take j s) (get_or s j 0 ∷ []) r)
    ∙ set_at (take j s) (get_or s j 0) r (get_or s (j - w) 0) j (length-take-le j s (omega arith))
    ∙ ap (λ (x : List ℕ). take j s ++ x) (sym d)

-- dropping from a front
pub drop-take : (w n : ℕ) (s : List ℕ) → drop w (take n s) ≡ take (n - w) (drop w s)
drop-take zero n s = rw (sub-zero n)
drop-take (suc w) zero s = rw (zero-sub (suc w))
drop-take (suc w) (suc n) [] = rw (take-nil (suc n - suc w))
drop-take (suc w) (suc n) (x ∷ s) = drop-take w n s
    ∙ ap (λ (m : ℕ). take m (drop w s)) (sym (suc-sub-suc n w))

-- ---- a part that was lent and came back

module _ (s : List ℕ) (from to w : ℕ) (h : from + w ≤ to) (k : to ≤ length s) where
  pub part_length : length (take (to - from) (drop from s)) ≡ to - from
  part_length = length-take-le (to - from) (drop from s) (rw (length-drop from s) (omega arith))

  behind : drop (to - from) (drop from s) ≡ drop to s
  behind = drop-drop (to - from) from s ∙ ap (λ (n : ℕ). drop n s)
      (add-sub_of_le (le_trans (le-add_right from w) h))

  -- the part moved up
  pub gapped-part : take from s ++ (take w (take (to - from) (drop from s))
      ++ take (length (take (to - from) (drop from s)) - w) (take (to - from) (drop from s))
      ++ drop (to - from) (drop from s))
      ≡ gapped from to w s
  unfolding gapped
  gapped-part =
      let a : w ≤ to - from = omega arith in
      let b : to - from - w ≤ to - from = omega arith in
      rw (
        part_length,
        behind,
        take-take w (to - from) (drop from s) a,
        take-take (to - from - w) (to - from) (drop from s) b,
        take-add from w s,
      )
      (simp append_assoc)

-- what the borrow checker says of a part that came back is a splice
pub part-back : (s : List ℕ) (a e : ℕ) (ys : List ℕ) → a ≤ e → e ≤ length s → length ys ≡ e - a →
    take a s ++ (ys ++ drop (e - a) (drop a s)) ≡ splice a ys s
unfolding splice
part-back s a e ys h k l =
    rw (drop-drop (e - a) a s, ← append_assoc (take a s) ys (drop (a + (e - a)) s), l)

-- the bytes from a place up to e, after others were copied there
pub part-put : (at e : ℕ) (s : List ℕ) {ys bs : List ℕ} → ys ≡ bs → at + length bs ≡ e →
    take at s ++ (ys ++ drop (e - at) (drop at s)) ≡ splice at bs s
unfolding splice
part-put at e s {ys} {bs} p l =
    let n : at + (e - at) ≡ at + length bs = omega arith in
    rw (p, drop-drop (e - at) at s, ← append_assoc (take at s) bs (drop (at + (e - at)) s), n) refl

-- the first e bytes, after others were copied there
pub front-put : (e : ℕ) (s : List ℕ) {ys bs : List ℕ} → ys ≡ bs → length bs ≡ e → ys ++ drop e s ≡ splice 0 bs s
unfolding splice
front-put e s {ys} {bs} p l = rw (p, zero-add (length bs), l) refl

-- a second store right behind a first, as what two calls ensure
pub splice-then : (at n : ℕ) (a b s : List ℕ) {s₁ s₂ : List ℕ} → at + n ≤ length s → length a ≡ n →
    s₁ ≡ splice at a s → s₂ ≡ splice (at + n) b s₁ → s₂ ≡ splice at (a ++ b) s
splice-then at n a b s h l p q =
    let k : at + length a ≤ length s = rw l h in
    q ∙ ap (splice (at + n) b) p ∙ ap (λ (m : ℕ). splice (at + m) b (splice at a s)) (sym l)
    ∙ splice-join at a b s k
