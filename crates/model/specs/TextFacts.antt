-- Numbers that are printed can be read back (`decimal-back`, `instant-back`), and how long they are: one
-- below 10 to the power of k has at most k digits (`decimal-below`).
use Rattle.std.specs.Prelude.{◌≡◌, refl, ℕ, zero, suc, ◌+◌, ◌-◌, ◌*◌, ◌/◌, ◌%◌, ◌^◌, ◌≤◌, ◌<◌, Bool, true, false, not, List, [], ◌∷◌, ◌++◌, ltb, eqb, length}
use Rattle.std.proofs.Common.{sym, ap, ◌∙◌, arith, length-append}
use Rattle.std.proofs.Math.Nat.{pow-succ'}
use Rattle.std.proofs.lemmas.Bool.{false≢true}
use Rattle.std.proofs.Math.Option.{some, some-ne-none}
use Rattle.foundation.specs.Tests.{cases, le-true, true-le, false-le, true_eq, ne_false, and-true, and_intro}
use Rattle.foundation.specs.Lists.{allb}
use Rattle.foundation.specs.Bytes.{eq_list, eq_list_eq}
use Rattle.model.specs.Ranges.{last_instant}
use Rattle.model.specs.Text.{ascii, is_digit, value_from, leading_zero, number, instant, digits, decimal}
use Rattle.model.specs.Text.{print_instant}

-- ---- one digit more at the end

value_append : (a : ℕ) (s : List ℕ) (c : ℕ) → value_from a (s ++ (c ∷ [])) ≡ 10 * value_from a s + (c - 48)
value_append a [] c = refl
value_append a (d ∷ s) c = value_append (10 * a + (d - 48)) s c

all_append : (p : ℕ → Bool) (xs ys : List ℕ) → allb p xs ≡ true → allb p ys ≡ true → allb p (xs ++ ys) ≡ true
all_append p [] ys e f = f
all_append p (x ∷ xs) ys e f =
    let w = and-true (p x) (allb p xs) e in
    and_intro (p x) (allb p (xs ++ ys)) w.0 (all_append p xs ys w.1 f)

-- there is a first digit and it is not 0
abbrev leads : List ℕ → Bool
leads [] = false
leads (c ∷ s) = not (eqb c 48)

leads_append : (s t : List ℕ) → leads s ≡ true → leads (s ++ t) ≡ true
leads_append [] t e = absurd (false≢true e)
leads_append (c ∷ s) t e = e

leads-zero : (s : List ℕ) → leads s ≡ true → leading_zero s ≡ false
leads-zero [] e = refl
leads-zero (c ∷ []) e = refl
leads-zero (c ∷ d ∷ s) e = cases (eqb c 48) (λ p. absurd (false≢true (rw p at e))) (λ p. p)

-- ---- the digits of n

-- s is n in at most k digits, with none of them 0 in front of others; for k = 0 it is 0 with no digit
record DigitsOf (k n : ℕ) (s : List ℕ) : Type 0 where
  value : value_from 0 s ≡ n
  all : allb is_digit s ≡ true
  most : length s ≤ k
  least : 1 ≤ k → 1 ≤ length s
  leading : 1 ≤ n → leads s ≡ true
  plain : leading_zero s ≡ false

-- the last digit
abbrev last : ℕ → List ℕ
last n = (48 + n % 10) ∷ []

last_digit : (n : ℕ) → allb is_digit (last n) ≡ true
last_digit n = rw (le-true 48 (48 + n % 10) (omega arith), le-true (48 + n % 10) 57 (omega arith))

written_none : (n : ℕ) → n < 1 → DigitsOf 0 n []
written_none n h = record {
  value = omega arith;
  all = refl;
  most = omega arith;
  least = λ l. l;
  leading = λ l. absurd (omega arith);
  plain = refl;
}

written_one : (k n : ℕ) → n < 10 → DigitsOf (suc k) n (last n)
written_one k n h = record {
  value = omega arith;
  all = last_digit n;
  most = omega arith;
  least = λ l. omega arith;
  leading = λ l. ap not (ne_false (48 + n % 10) 48 (omega arith));
  plain = refl;
}

written_more : (k n : ℕ) (s : List ℕ) → 10 ≤ n → DigitsOf k (n / 10) s → DigitsOf (suc k) n (s ++ last n)
written_more k n s h w =
    let long = length-append s (last n) in
    let first = w.leading (omega arith) in
    record {
      value = value_append 0 s (48 + n % 10) ∙ rw w.value (omega arith);
      all = all_append is_digit s (last n) w.all (last_digit n);
      most = omega arith;
      least = λ l. omega arith;
      leading = λ l. leads_append s (last n) first;
      plain = leads-zero (s ++ last n) (leads_append s (last n) first);
    }

digits-written : (k n : ℕ) → n < 10 ^ k → DigitsOf k n (digits k n)
digits-written zero n h = written_none n h
digits-written (suc k) n h =
    let less : n < 10 * 10 ^ k = rw (pow-succ' 10 k) at h in
    cases (ltb n 10)
    (λ e. rw e (written_one k n (true-le (suc n) 10 e)))
    (λ e. let ten = false-le (suc n) 10 e in
    rw e (written_more k n (digits k (n / 10)) (omega arith) (digits-written k (n / 10) (omega arith))))

-- ---- reading back

-- what is written in one to ten digits is read, up to the last instant
written_back : (k n : ℕ) (s : List ℕ) → 1 ≤ k → k ≤ 10 → n ≤ last_instant → DigitsOf k n s → number s ≡ some n
written_back k n s a b h w =
    rw (
      w.all,
      le-true 1 (length s) (w.least a),
      le-true (length s) 10 (omega arith),
      w.plain,
      w.value,
      le-true n last_instant h,
    )

pub decimal-back : (n : ℕ) → n ≤ last_instant → number (decimal n) ≡ some n
unfolding decimal
decimal-back n h = written_back 10 n (digits 10 n) (omega arith) (omega arith) h
    (digits-written 10 n (omega arith))

-- the digits of a number are not `inf`, which is no number
pub instant-back : (n : ℕ) → n ≤ last_instant → instant (print_instant n) ≡ some n
instant-back n h = cases (eqb n last_instant)
    (λ e. rw e (ap some (sym (true_eq n last_instant e))))
    (λ e. rw e (cases (eq_list (decimal n) (ascii "inf"))
    (λ f. absurd (some-ne-none n (sym (decimal-back n h)
    ∙ ap number (eq_list_eq (decimal n) (ascii "inf") f))))
    (λ f. rw f (decimal-back n h))))

-- ---- how long numbers are

-- the last digit stands behind those of the tenth
pub digits_more : (k n : ℕ) → 10 ≤ n → length (digits (suc k) n) ≡ suc (length (digits k (n / 10)))
digits_more k n h = cases (ltb n 10)
    (λ e. absurd (omega (arith, true-le (suc n) 10 e)))
    (λ e. rw e (omega (arith, length-append (digits k (n / 10)) ((48 + n % 10) ∷ []))))

pub digits_one : (k n : ℕ) → n < 10 → length (digits (suc k) n) ≡ 1
digits_one k n h = cases (ltb n 10)
    (λ e. rw e refl)
    (λ e. absurd (omega (arith, false-le (suc n) 10 e)))

digits-below : (m k n : ℕ) → n < 10 ^ suc k → length (digits m n) ≤ suc k
digits-below zero k n h = omega arith
digits-below (suc m) zero n h = omega (arith, digits_one m n h)
digits-below (suc m) (suc k) n h = cases (ltb n 10)
    (λ e. omega (arith, digits_one m n (true-le (suc n) 10 e)))
    (λ e. let t : 10 ≤ n = omega (arith, false-le (suc n) 10 e) in
    let l : n < 10 * 10 ^ suc k = rw (pow-succ' 10 (suc k)) at h in
    omega (arith, digits_more m n t, digits-below m k (n / 10) (omega arith)))

-- a number below 10 to the power of k + 1 has at most k + 1 digits
pub decimal-below : (k n : ℕ) → n < 10 ^ suc k → length (decimal n) ≤ suc k
unfolding decimal
decimal-below k n h = digits-below 10 k n h

digits-most : (k n : ℕ) → length (digits k n) ≤ k
digits-most zero n = omega arith
digits-most (suc k) n = cases (ltb n 10)
    (λ e. omega (arith, digits_one k n (true-le (suc n) 10 e)))
    (λ e. let t : 10 ≤ n = omega (arith, false-le (suc n) 10 e) in
    omega (arith, digits_more k n t, digits-most k (n / 10)))

pub decimal-most : (n : ℕ) → length (decimal n) ≤ 10
unfolding decimal
decimal-most n = digits-most 10 n

pub instant-most : (t : ℕ) → length (print_instant t) ≤ 10
instant-most t = cases (eqb t last_instant) (λ e. rw e (omega arith)) (λ e. rw e (decimal-most t))
