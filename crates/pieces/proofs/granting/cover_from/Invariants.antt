use Rattle.std.specs.Prelude.{◌≡◌, ◌≤◌, drop, length}
use Rattle.cover.specs.First.{first}
use Rattle.cover.specs.Cover.{covered_by}
use Rattle.pieces.proofs.granting.cover_from.Given as goal

abbrev pub invariant-loop-i : goal.invariant-loop-i
invariant-loop-i l =
    (l.i ≤ length l.authorizations)
    × (l.a ≤ l.d)
    × (first (covered_by l.w l.authorizations) l.a l.b ≡ first (covered_by l.w (drop l.i l.authorizations)) l.a l.d)
