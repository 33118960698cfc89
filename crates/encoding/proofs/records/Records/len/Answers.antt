use Rattle.encoding.proofs.RecordPlaces.{counted}
use Rattle.encoding.proofs.records.Records.len.Goals as goal

pub returns : goal.returns
returns g c =
    let i = c.self.inside in
    counted g.R.Record.BYTES g.R.Record.of i.count i.bytes.now c.args.self.now c.self.view_is
