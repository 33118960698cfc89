use native.Mathlib.Omega.{arith}
use mathlib.Core.Path.{refl}
use mathlib.Core.List.{[], ◌∷◌}
use lib.ListN.{length-append}
use Rattle.model.specs.Text.{newline, print_reply}
use Rattle.model.specs.Session.{runs_of}
use Rattle.printing.proofs.Lengths.{reply_most, fit_in}
use Rattle.text.proofs.LineEnd.{line_ended}
use Rattle.text.proofs.put_line.Goals as goal

pub put_reply-n-requires : goal.put_reply-n-requires
put_reply-n-requires c =
    let d = c in
    (omega (arith, d.requires.0), fit_in d.args.r d.args.list.now d.requires.1)

pub overflow_cast-result : goal.overflow_cast-result
overflow_cast-result c =
    let p = c in
    let d = p in
    omega (arith, p.put_reply-n.ensures.ends, reply_most d.args.r d.args.list.now d.requires.1)

pub returns : goal.returns
returns c =
    let p = c in
    let d = p in
    let text = print_reply d.args.r (runs_of d.args.r d.args.list.now) in
    record {
      refusal = refl;
      count = omega (arith, p.put_reply-n.ensures.ends, length-append text (newline ∷ []));
      bytes = line_ended p.put_reply-n.ensures d.requires.0;
    }
