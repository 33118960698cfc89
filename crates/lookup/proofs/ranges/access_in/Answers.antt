use mathlib.Core.Bool.{◌&&◌}
use Rattle.lookup.proofs.ranges.access_in.Goals as goal

pub returns : goal.returns
returns c = λ k. c.subject_in.ensures k && c.mode_in.ensures k
    && c.object_in.ensures k
