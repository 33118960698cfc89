use mathlib.Core.Path.{sym}
use lib.Seq.{length-take-le}
use Rattle.serving.proofs.steps.serve_front.Goals as goal

pub slice_bounds-serve_line-end : goal.slice_bounds-serve_line-end
slice_bounds-serve_line-end c =
    let d = c in
    sym (length-take-le d.args.len d.args.line.now d.requires.2)

pub returns : goal.returns
returns c = c.serve_line.ensures
