-- A short reply needs no list of runs, and with its newline it is no longer than 16 bytes.
use mathlib.Core.Path.{◌≡◌, refl}
use mathlib.Core.List.{List, []}
use Prim.Native.Nat.{ℕ, ◌≤◌}
use native.Mathlib.Omega.{arith}
use lib.ListN.{length}
use Rattle.foundation.specs.declared.Interval.{Interval}
use Rattle.model.specs.declared.Reply.{Reply}
use Rattle.model.specs.declared.Reply.TheVariants.{Done, Refused, Unsupported, Yes, No, Runs}
use Rattle.model.specs.Session.{runs_of}
use Rattle.model.specs.Text.{print_reply}
use Rattle.model.specs.TextFacts.{decimal-below}
use Rattle.printing.specs.Print.{RunsFit, Short}
use Rattle.printing.proofs.Lengths.{done-length, refused-length}

pub short-fits : (r : Reply) (list : List ℕ) → Short r → RunsFit r list
short-fits (Done label count) list h = tt
short-fits (Refused n) list h = tt
short-fits (Unsupported t) list h = tt
short-fits Yes list h = tt
short-fits No list h = tt
short-fits (Runs n) list h = absurd h

-- its text is the same whatever the list
pub short_runs : (r : Reply) (list : List ℕ) → Short r → runs_of r list ≡ []
short_runs (Done label count) list h = refl
short_runs (Refused n) list h = refl
short_runs (Unsupported t) list h = refl
short_runs Yes list h = refl
short_runs No list h = refl
short_runs (Runs n) list h = absurd h

pub short-length : (r : Reply) (runs : List Interval) → Short r → length (print_reply r runs) ≤ 15
short-length (Done label count) runs h = omega (
  arith,
  done-length label count,
  decimal-below 4 label (omega arith),
  decimal-below 3 count (omega arith),
)
short-length (Refused n) runs h = omega (arith, refused-length n, decimal-below 1 n h)
short-length (Unsupported t) runs h = omega arith
short-length Yes runs h = omega arith
short-length No runs h = omega arith
short-length (Runs n) runs h = absurd h
