use Rattle.std.specs.Prelude.{◌≡◌, ◌≤◌, map, length, take}
use Rattle.foundation.specs.BitMasks.{as_bit}
use Rattle.rules.specs.RankTables.{own_count}
use Rattle.rules.specs.Edges.{shown, row_of}
use Rattle.rules.proofs.Rounds.{ranks}
use Rattle.rules.proofs.ranks.rank.Given as goal

abbrev pub invariant-loop-j : goal.invariant-loop-j
invariant-loop-j l =
    (l.j ≤ length l.rules)
    × (length l.rows ≡ 65)
    × (length l.ranks ≡ 65)
    × (map shown (take l.j l.rows) ≡ map (row_of l.counting l.rules) (take l.j l.rules))
    × (take l.j l.ranks ≡ map (λ r. as_bit (own_count l.counting r)) (take l.j l.rules))

abbrev pub invariant-loop : goal.invariant-loop
invariant-loop l =
    (l.counter ≤ l.n)
    × (map shown (take l.n l.rows) ≡ map (row_of l.fn.counting l.rules) l.rules)
    × (take l.n l.ranks ≡ map (ranks l.fn.counting l.rules l.counter) l.rules)
