use Rattle.std.proofs.Common.{rules}
use Rattle.cover.specs.Sweep.{end_from}
use Rattle.cover.proofs.end_from.Goals as goal

pub returns-then-covers_at : goal.returns-then-covers_at
unfolding end_from
returns-then-covers_at c = search rules

pub returns : goal.returns
unfolding end_from
returns c = search rules
