use Rattle.std.proofs.Common.{◌≡◌, ◌++◌, ◌+◌, ◌-◌, ◌*◌, ◌≤◌, length, take, drop}
use Rattle.foundation.specs.Lists.{each}
use Rattle.records.proofs.page.fill.Given as goal

abbrev pub invariant-loop-i : goal.invariant-loop-i
invariant-loop-i g l =
    let w = g.R.Numbered.WIDTH in
    let numbers = g.R.Numbered.numbers in
    (l.i ≤ l.k)
    × (length l.list ≡ length l.initial.list)
    × (take (l.i * w) l.list ++ each (take (l.k - l.i) (drop (l.first + l.i) l.records)) numbers
    ≡ each (take l.k (drop l.first l.records)) numbers)
    × (drop (l.i * w) l.list ≡ drop (l.i * w) l.initial.list)
