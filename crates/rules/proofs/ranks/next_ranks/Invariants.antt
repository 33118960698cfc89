use Rattle.std.specs.Prelude.{◌≡◌, map, length, take}
use Rattle.rules.specs.Edges.{shown, best_of}
use Rattle.rules.proofs.ranks.next_ranks.Given as goal

abbrev pub invariant-loop-j : goal.invariant-loop-j
invariant-loop-j l =
    (length l.next ≡ 65) × (take l.j l.next ≡ map (λ row. best_of l.ranks (shown row)) (take l.j l.rows))
