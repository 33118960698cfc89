use Rattle.std.proofs.Common.{length, rules}
use Rattle.foundation.specs.Tests.{le-true, le-false}
use Rattle.vectors.specs.Transcripts.{marked}
use Rattle.vectors.proofs.stages.marked.Goals as goal

pub returns-then-line-lt2 : goal.returns-then-line-lt2
unfolding marked
returns-then-line-lt2 c = rw (le-false 2 (length c.args.line.now) (search rules))

pub returns : goal.returns
unfolding marked
returns c = rw (le-true 2 (length c.args.line.now) (search rules))
