use Rattle.std.specs.Prelude.{◌≡◌, ◌≤◌, ◌++◌, length, take, drop}
use Rattle.rules.specs.Edges.{steps_into}
use Rattle.rules.proofs.ranks.row_of.Given as goal

abbrev pub invariant-loop-i : goal.invariant-loop-i
invariant-loop-i l =
    (l.i ≤ length l.rules)
    × (l.len ≤ l.i)
    × (length l.steps ≡ 65)
    × (take l.len l.steps ++ steps_into l.counting l.r (drop l.i l.rules) l.i ≡ steps_into l.counting l.r l.rules 0)
