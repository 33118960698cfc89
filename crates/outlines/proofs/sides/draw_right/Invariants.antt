use mathlib.Core.Path.{◌≡◌}
use Prim.Native.Nat.{ℕ, ◌/◌, ◌≤◌}
use lib.ListN.{length, get_or, drop}
use Rattle.sections.specs.Sections.{rights_of, subjects_of, objects_of}
use Rattle.outlines.specs.Outline.{RightSides}
use Rattle.outlines.proofs.sides.draw_right.Given as goal

abbrev pub invariant-loop-i : goal.invariant-loop-i
invariant-loop-i l =
    (l.i ≤ l.n) × (length l.coordinates ≡ 1666)
    × RightSides (subjects_of l.initial.coordinates) (objects_of l.initial.coordinates) l.i l.body (rights_of l.coordinates)
    × ((k : ℕ) → l.i ≤ k / 4 → get_or (rights_of l.coordinates) k 0 ≡ get_or (rights_of l.initial.coordinates) k 0)
    × (drop 512 l.coordinates ≡ drop 512 l.initial.coordinates)
