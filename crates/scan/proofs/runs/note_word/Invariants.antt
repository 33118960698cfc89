use mathlib.Core.Path.{◌≡◌}
use mathlib.Core.Bool.{Bool, true}
use mathlib.Core.List.{List}
use Prim.Native.Nat.{ℕ, ◌+◌, ◌≤◌, ◌<◌}
use lib.ListN.{get_or}
use Rattle.scan.specs.Runs.{inside, ScannedTo, Answered, instant_at}
use Rattle.scan.proofs.runs.note_word.Given as goal

abbrev pub invariant-loop-i : goal.invariant-loop-i
invariant-loop-i l =
    (l.r.count ≤ l.initial.r.count + l.i) × (inside l.r ≡ true → l.i < l.count → 0 < get_or l.marks l.i 0)
    × ((f : ℕ → Bool) (e : ℕ) (lent' : List ℕ) (m : ℕ) → ScannedTo f e lent' (get_or l.marks 0 0) l.initial.r l.initial.list →
    Answered f e l.count l.marks m l.yes → ScannedTo f e lent' (instant_at l.count l.marks m l.i) l.r l.list)
