use mathlib.Core.List.{List}
use Prim.Native.Nat.{ℕ}
use Rattle.words.specs.Sums.{SumGrown}
use Rattle.tables.specs.TableGiving.{tables_of, TablesGiven}
use Rattle.tables.proofs.GivingSteps.{taken_by}
use Rattle.tables.proofs.give.Given as goal

abbrev pub invariant-loop-c : goal.invariant-loop-c
invariant-loop-c l =
    TablesGiven (tables_of l.f l.right l.first) l.f.width l.p.pair l.p.point (taken_by l.yielded) l.v l.initial.words l.words
    × ((old : List ℕ) → SumGrown l.initial.fresh old l.initial.words → SumGrown l.fresh old l.words)
