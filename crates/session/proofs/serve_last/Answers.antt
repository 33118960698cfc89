-- What `serve_end` printed is handed over.
use Rattle.std.proofs.Common.{subst, List, ℕ}
use Rattle.channel.specs.Trace.{Handed}
use Rattle.session.proofs.serve_last.Goals as goal

pub returns : goal.returns
returns g c =
    let e = c.serve_end-n.ensures in (
      λ q k. (
        (e.0 q k).1,
        subst (λ (text : List ℕ). Handed c.args.g.channel text c.put.result) (e.0 q k).0 c.put.ensures,
      ),
      e.3,
    )
