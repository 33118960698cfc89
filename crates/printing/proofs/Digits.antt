-- The digits of a number, found from the last one back.
use mathlib.Core.Path.{◌≡◌, sym, ap, ◌∙◌}
use mathlib.Core.List.{List, [], ◌∷◌, ◌++◌, append_assoc, append-nil}
use Prim.Native.Nat.{ℕ, zero, suc, ◌+◌, ◌-◌, ◌/◌, ◌%◌, ◌^◌, ◌*◌, ◌≤◌, ◌<◌}
use native.Mathlib.Nat.{pow-succ'}
use native.Mathlib.Omega.{arith}
use lib.ListN.{length, take, drop, set, length-set, length-drop, drop_of_length-le}
use lib.Seq.{take_all, drop-cons, drop-set-lt, get_or-set_same}
use Rattle.foundation.specs.Tests.{le-true, le-false}
use Rattle.model.specs.Text.{digits, decimal}

-- a digit stored at i, in front of those behind it
stored : (i x : ℕ) (s : List ℕ) → i < length s → drop i (set s i x) ≡ x ∷ drop (suc i) s
stored i x s h =
    drop-cons (set s i x) i 0 (rw (length-set s i x) h)
    ∙ (λ k. get_or-set_same s i x 0 h k ∷ drop-set-lt (suc i) s i x (omega arith) k)

-- a number of more than one digit has others before the last
pub below_next : (i n : ℕ) → 10 ≤ n → n < 10 ^ suc i → (1 ≤ i) × (n / 10 < 10 ^ i)
below_next zero n h k = absurd (omega arith)
below_next (suc j) n h k = let l : n < 10 * 10 ^ suc j = rw (pow-succ' 10 (suc j)) at k in
    (omega arith, omega arith)

-- the last digit goes to i, and the others stand before it
pub digits-turn : (i n : ℕ) (s : List ℕ) → 10 ≤ n → i < length s →
    digits i (n / 10) ++ drop i (set s i (48 + n % 10)) ≡ digits (suc i) n ++ drop (suc i) s
digits-turn i n s h k =
    rw (le-false (suc n) 10 (omega arith), stored i (48 + n % 10) s k)
    (sym (append_assoc (digits i (n / 10)) ((48 + n % 10) ∷ []) (drop (suc i) s)))

-- the first digit goes to i, and the number is whole
pub digits-end : (i n : ℕ) (s : List ℕ) → n < 10 → i < length s →
    drop i (set s i (48 + n)) ≡ digits (suc i) n ++ drop (suc i) s
digits-end i n s h k =
    let m : n % 10 ≡ n = omega arith in
    rw (le-true (suc n) 10 h, m) (stored i (48 + n) s k)

-- what is lent from where the number starts
pub lent-number : (i n : ℕ) (s : List ℕ) → length s ≡ 10 → drop i s ≡ decimal n →
    take (10 - i) (drop i s) ≡ decimal n
lent-number i n s l e = take_all (10 - i) (drop i s) (simp length-drop (omega arith)) ∙ e

-- none is found yet
pub digits-start : (n : ℕ) (s : List ℕ) → length s ≡ 10 → digits 10 n ++ drop 10 s ≡ decimal n
unfolding decimal
digits-start n s l =
    ap (λ (t : List ℕ). digits 10 n ++ t) (drop_of_length-le s {i = 10} (omega arith))
    ∙ append-nil (digits 10 n)
