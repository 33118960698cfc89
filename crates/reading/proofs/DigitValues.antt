-- The value of digits, byte by byte.
use Rattle.std.specs.Prelude.{◌≡◌, ℕ, ◌+◌, ◌-◌, ◌*◌, ◌≤◌, ◌<◌, true, false, ◌&&◌, List, [], ◌∷◌, leb, length, drop, get_or}
use Rattle.std.proofs.Common.{add-one, arith}
use Rattle.std.proofs.Math.Option.{Option, none, some}
use Rattle.std.proofs.Math.Seq.{drop-cons}
use Rattle.std.proofs.Math.ListN.{drop_of_length-le}
use Rattle.foundation.specs.Tests.{cases, pick, and-false, le-true, le-false}
use Rattle.foundation.specs.Lists.{allb}
use Rattle.model.specs.Ranges.{last_instant}
use Rattle.model.specs.Text.{is_digit, value_from, leading_zero, number}

-- the number of the digits s behind those that make n
abbrev pub number_from : ℕ → List ℕ → Option ℕ
number_from n s = pick (allb is_digit s && leb (value_from n s) last_instant) (some (value_from n s)) none

value_grows : (n : ℕ) (s : List ℕ) → n ≤ value_from n s
value_grows n [] = omega arith
value_grows n (c ∷ s) = omega (arith, value_grows (10 * n + (c - 48)) s)

-- a digit more
pub number_more : (n : ℕ) (s : List ℕ) (i : ℕ) → i < length s → is_digit (get_or s i 0) ≡ true →
    number_from n (drop i s) ≡ number_from (10 * n + (get_or s i 0 - 48)) (drop (i + 1) s)
number_more n s i h e = rw (add-one, drop-cons s i 0 h, e)

-- another byte
pub number_other : (n : ℕ) (s : List ℕ) (i : ℕ) → i < length s → is_digit (get_or s i 0) ≡ false →
    number_from n (drop i s) ≡ none
number_other n s i h e = rw (drop-cons s i 0 h, e)

-- too large a number
pub number_above : (n : ℕ) (s : List ℕ) → last_instant < n → number_from n s ≡ none
number_above n s h =
    let l : leb (value_from n s) last_instant ≡ false = le-false _ _ (omega (arith, value_grows n s)) in
    rw (l, and-false (allb is_digit s))

-- a number is the number of its digits
pub number_whole : (s : List ℕ) → 1 ≤ length s → length s ≤ 10 → leading_zero s ≡ false → number s ≡ number_from 0 s
number_whole s a b z = cases (allb is_digit s)
    (λ e. rw (e, le-true 1 (length s) a, le-true (length s) 10 b, z))
    (λ e. rw e)

-- no byte is left
pub number_end : (n : ℕ) (s : List ℕ) (i : ℕ) → n ≤ last_instant → length s ≤ i → number_from n (drop i s) ≡ some n
number_end n s i h l = rw (drop_of_length-le s l, le-true n last_instant h)

pub ruleset digits = (number_more, number_other, number_above, number_whole, number_end)
