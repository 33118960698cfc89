use mathlib.Core.Path.{◌≡◌}
use Prim.Native.Nat.{ℕ, ◌≤◌, ◌<◌}
use lib.ListN.{length, get_or}
use Rattle.sections.specs.Sections.{subjects_of, objects_of}
use Rattle.outlines.specs.Coordinates.{HasCoordinates, subject_on_right, object_on_right}
use Rattle.outlines.proofs.numbers.number_sides.Given as goal

abbrev pub invariant-loop-i : goal.invariant-loop-i
invariant-loop-i l =
    (l.i ≤ l.n) × HasCoordinates subject_on_right l.i l.body (subjects_of l.coordinates) l.s
    × HasCoordinates object_on_right l.i l.body (objects_of l.coordinates) l.o
    × ((v : ℕ) → v < 512 → get_or l.coordinates v 0 ≡ 0) × (length l.coordinates ≡ 1666)
