use Rattle.std.proofs.Common.{◌≡◌}
use Rattle.foundation.specs.Marks.{next}
use Rattle.relevance.specs.Chosen.{picked}
use Rattle.relevance.specs.Distance.{line_edges, reached}
use Rattle.relevance.proofs.distance.nearest_line.Given as goal

abbrev pub invariant-loop-w : goal.invariant-loop-w
invariant-loop-w l =
    reached l.t l.best ≡ next l.t (line_edges l.ends (picked l.lines l.which l.w-index)) 4294967296
