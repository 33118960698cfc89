-- The sum of words after one of them has changed, after no change and after two (`grown-none`, `grown-both`),
-- and its bound (`sum-words`).
use mathlib.Core.Path.{◌≡◌, refl, sym, ap, ◌∙◌}
use mathlib.Core.Bool.{Bool, true, false, not, ◌||◌}
use mathlib.Core.List.{List, [], ◌∷◌}
use Prim.Native.Nat.{ℕ, zero, suc, ◌+◌, ◌*◌, ◌≤◌, ◌<◌}
use native.Mathlib.Omega.{arith}
use lib.Bits.{bit_or, or_add_and, and_le_r}
use lib.Dec.{eqb}
use lib.ListN.{length, get_or, set}
use lib.Seq.{set-get_or}
use Rattle.foundation.specs.Tests.{not-true, not-false, true_eq, false_eq}
use Rattle.words.specs.Sums.{sum, SumGrown}

pub sum-set : (l : List ℕ) (i v : ℕ) → i < length l → sum (set l i v) + get_or l i 0 ≡ sum l + v
sum-set [] i v h = absurd (omega arith)
sum-set (x ∷ l) zero v h = omega arith
sum-set (x ∷ l) (suc i) v h = let s = sum-set l i v (omega arith) in omega arith

-- bits that are joined to a word
pub join_grown : (l : List ℕ) (i v : ℕ) → i < length l →
    SumGrown (not (eqb (get_or l i 0) (bit_or (get_or l i 0) v))) l (set l i (bit_or (get_or l i 0) v))
join_grown l i v h =
    let x : ℕ = get_or l i 0 in
    let y : ℕ = bit_or x v in
    record {
      same = λ e. ap (set l i) (sym (true_eq x y (not-false (eqb x y) e))) ∙ set-get_or l i 0;
      more = λ e.
          let n = false_eq x y (not-true (eqb x y) e) in
          omega (arith, sum-set l i y h, or_add_and x v, and_le_r x v);
    }

pub grown_none : (l : List ℕ) → SumGrown false l l
grown_none l = record { same = λ e. refl; more = λ e. let z : ◌≡◌ {A = ℕ} 0 1 = cc in absurd (omega arith) }

pub grown_both : (p q : Bool) {a b c : List ℕ} → SumGrown p a b → SumGrown q b c → SumGrown (p || q) a c
grown_both false q g h =
    let e = g.same refl in
    record { same = λ z. h.same z ∙ e; more = λ z. rw e at (h.more z) }
grown_both true false g h =
    let e = h.same refl in
    record {
      same = λ z. let y : ◌≡◌ {A = ℕ} 0 1 = cc in absurd (omega arith);
      more = λ z. rw e (g.more refl);
    }
grown_both true true g h = record {
  same = λ z. let y : ◌≡◌ {A = ℕ} 0 1 = cc in absurd (omega arith);
  more = λ z. omega (arith, g.more refl, h.more refl);
}

-- the sum of words has a bound
pub sum-words : (l : List ℕ) → ((i : ℕ) → get_or l i 0 < 18446744073709551616) →
    sum l ≤ 18446744073709551615 * length l
sum-words [] h = omega arith
sum-words (x ∷ l) h = let r = sum-words l (λ i. h (suc i)) in let f = h 0 in omega arith
