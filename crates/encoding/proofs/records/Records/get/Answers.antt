use Rattle.std.proofs.Common.{ap, ◌∙◌, arith, drop, length, ◌+◌, ◌*◌, ◌≤◌}
use Rattle.encoding.proofs.RecordPlaces.{within, nth}
use Rattle.encoding.proofs.records.Records.get.Goals.{After-BYTES}
use Rattle.encoding.proofs.records.Records.get.Given.{Over}
use Rattle.encoding.proofs.records.Records.get.Goals as goal

inside : (g : Over) (c : After-BYTES g) → c.args.i * c.BYTES.result + g.R.Record.BYTES ≤ length c.self.inside.bytes.now
inside g c =
    let i = c.self.inside in
    rw (c.BYTES.ensures) (within g.R.Record.BYTES g.R.Record.of i.count i.bytes.now c.args.self.now c.self.view_is c.args.i c.self.invariant c.requires)

pub overflow_mul-i : goal.overflow_mul-i
overflow_mul-i g c = omega (arith, inside g c, c.self.told.0)

pub at-requires : goal.at-requires
at-requires g c = inside g c

pub returns : goal.returns
returns g c =
    let i = c.self.inside in
    nth g.R.Record.BYTES g.R.Record.of i.count i.bytes.now c.args.self.now c.self.view_is c.args.i c.at.result c.requires
    (c.at.ensures ∙ ap (λ n. g.R.Record.of (drop (c.args.i * n) i.bytes.now)) c.BYTES.ensures)
