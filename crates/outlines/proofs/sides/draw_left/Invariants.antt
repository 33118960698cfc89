use mathlib.Core.Path.{◌≡◌}
use Prim.Native.Nat.{◌≤◌}
use lib.ListN.{length, drop}
use Rattle.sections.specs.Sections.{sides_of, subjects_of, objects_of}
use Rattle.outlines.specs.Outline.{LeftSides}
use Rattle.outlines.proofs.sides.draw_left.Given as goal

abbrev pub invariant-loop-i : goal.invariant-loop-i
invariant-loop-i l =
    (l.i ≤ l.n) × (length l.coordinates ≡ 1666)
    × LeftSides (subjects_of l.initial.coordinates) (objects_of l.initial.coordinates) l.i l.body (sides_of l.coordinates)
    × (drop 256 l.coordinates ≡ drop 256 l.initial.coordinates)
