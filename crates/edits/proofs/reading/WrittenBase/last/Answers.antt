use Rattle.std.proofs.Common.{arith}
use Rattle.model.specs.Encoding.{decode}
use Rattle.edits.proofs.EditedBytes.{written-length}
use Rattle.edits.proofs.reading.WrittenBase.last.Goals as goal

pub le16-requires : goal.le16-requires
le16-requires c = omega (arith, written-length _ c.args.self.now.written)

pub returns : goal.returns
unfolding decode
returns c = c.le16.ensures
