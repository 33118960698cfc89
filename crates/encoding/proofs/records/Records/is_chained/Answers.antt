use Rattle.std.proofs.Common.{sym, ◌∙◌, arith}
use Rattle.encoding.proofs.RecordPlaces.{chained_end}
use Rattle.encoding.proofs.records.Records.is_chained.Goals as goal

pub returns : goal.returns
returns g c p k =
    let l = c.loop-i in
    sym (l.invariant.1 p k ∙ chained_end p c.args.self.now l.i (omega (arith, c.len-i-end.ensures)))
