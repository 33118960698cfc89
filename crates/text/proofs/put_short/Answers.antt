use native.Mathlib.Omega.{arith}
use mathlib.Core.List.{[]}
use Rattle.model.specs.Session.{runs_of}
use Rattle.printing.proofs.ShortFacts.{short-length, short-fits}
use Rattle.text.proofs.put_short.Goals as goal

pub put_line-requires : goal.put_line-requires
put_line-requires c =
    let d = c in
    let r = d.args.r in
    (omega (arith, short-length r (runs_of r []) d.requires.1), short-fits r [] d.requires.1)
