use mathlib.Core.Path.{sym}
use lib.Seq.{length-take-le}
use Rattle.encoding.proofs.heading.marked.Goals as goal

pub slice_bounds-eq-end : goal.slice_bounds-eq-end
slice_bounds-eq-end c = sym (length-take-le 4 c.args.s.now c.requires)
