-- How long the texts of replies are: none is longer than 24,000 bytes (`reply-most`).
use mathlib.Core.Path.{◌≡◌, ap, ◌∙◌}
use mathlib.Core.List.{List, ◌∷◌, ◌++◌}
use Prim.Native.Nat.{ℕ, zero, suc, ◌+◌, ◌*◌, ◌≤◌}
use native.Mathlib.Omega.{arith}
use lib.ListN.{length, drop, get_or, length-append}
use Rattle.foundation.specs.declared.Interval.{Interval}
use Rattle.foundation.specs.Intervals.{interval}
use Rattle.model.specs.declared.Reply.{Reply}
use Rattle.model.specs.declared.Reply.TheVariants.{Done, Refused, Unsupported, Yes, No, Runs}
use Rattle.model.specs.Text.{ascii, decimal, print_instant, print_run, print_more, print_runs, print_reply}
use Rattle.model.specs.TextFacts.{decimal-most, instant-most}
use Rattle.model.specs.Session.{pairs_of, runs_of}
use Rattle.printing.specs.Print.{longest_run, longest_reply, RunsIn, RunsFit}

-- ---- runs

-- two instants and what stands between them
pub run_length : (i : Interval) →
    length (print_run i) ≡ length (print_instant i.start) + 1 + length (print_instant i.end)
run_length i =
    length-append (print_instant i.start ++ ascii "-") (print_instant i.end)
    ∙ ap (λ (n : ℕ). n + length (print_instant i.end)) (length-append (print_instant i.start) (ascii "-"))

pub run_most : (i : Interval) → length (print_run i) ≤ 21
run_most i = omega (arith, run_length i, instant-most i.start, instant-most i.end)

pub more_length : (i : Interval) (rest : List Interval) →
    length (print_more (i ∷ rest)) ≡ 1 + length (print_run i) + length (print_more rest)
more_length i rest = omega (
  arith,
  length-append (ascii " " ++ print_run i) (print_more rest),
  length-append (ascii " ") (print_run i),
)

-- the first pair of a list
abbrev first_pair : List ℕ → Interval
first_pair list = interval (get_or list 0 0) (get_or list 1 0)

pub more_most : (n : ℕ) (list : List ℕ) → length (print_more (pairs_of n list)) ≤ longest_run * n
more_most zero list = omega arith
more_most (suc n) list = omega (
  arith,
  more_length (first_pair list) (pairs_of n (drop 2 list)),
  more_most n (drop 2 list),
  run_most (first_pair list),
)

-- fewer runs are not longer
pub more_rises : (m n : ℕ) (list : List ℕ) → m ≤ n →
    length (print_more (pairs_of m list)) ≤ length (print_more (pairs_of n list))
more_rises zero n list h = omega arith
more_rises (suc m) zero list h = absurd (omega arith)
more_rises (suc m) (suc n) list h = omega (
  arith,
  more_length (first_pair list) (pairs_of m (drop 2 list)),
  more_length (first_pair list) (pairs_of n (drop 2 list)),
  more_rises m n (drop 2 list) (omega arith),
)

-- the first run has no space before it
pub runs_length : (n : ℕ) (list : List ℕ) → 1 ≤ n →
    1 + length (print_runs (pairs_of n list)) ≡ length (print_more (pairs_of n list))
runs_length zero list h = absurd (omega arith)
runs_length (suc n) list h = omega (
  arith,
  more_length (first_pair list) (pairs_of n (drop 2 list)),
  length-append (print_run (first_pair list)) (print_more (pairs_of n (drop 2 list))),
)

pub runs_most : (n : ℕ) (list : List ℕ) → length (print_runs (pairs_of n list)) ≤ longest_run * n + 4
runs_most zero list = omega arith
runs_most (suc n) list = omega (arith, runs_length (suc n) list (omega arith), more_most (suc n) list)

-- ---- replies

pub done-length : (label count : ℕ) →
    length (ascii "done " ++ decimal label ++ ascii " " ++ decimal count)
    ≡ 6 + length (decimal label) + length (decimal count)
done-length label count = omega (
  arith,
  length-append (ascii "done " ++ decimal label ++ ascii " ") (decimal count),
  length-append (ascii "done " ++ decimal label) (ascii " "),
  length-append (ascii "done ") (decimal label),
)

pub refused-length : (k : ℕ) → length (ascii "refused " ++ decimal k) ≡ 8 + length (decimal k)
refused-length k = length-append (ascii "refused ") (decimal k)

pub fit_in : (r : Reply) (list : List ℕ) → RunsFit r list → RunsIn r list
fit_in (Done label count) list f = tt
fit_in (Refused k) list f = tt
fit_in (Unsupported t) list f = tt
fit_in Yes list f = tt
fit_in No list f = tt
fit_in (Runs n) list f = f.0

-- no reply is longer than 24,000 bytes
pub reply_most : (r : Reply) (list : List ℕ) → RunsFit r list →
    length (print_reply r (runs_of r list)) ≤ longest_reply
reply_most (Done label count) list f =
    omega (arith, done-length label count, decimal-most label, decimal-most count)
reply_most (Refused k) list f = omega (arith, refused-length k, decimal-most k)
reply_most (Unsupported t) list f = omega arith
reply_most Yes list f = omega arith
reply_most No list f = omega arith
reply_most (Runs n) list f = omega (arith, runs_most n list)
