use Rattle.std.proofs.Common.{arith}
use Rattle.model.specs.Encoding.{decode}
use Rattle.encoding.proofs.SoundBodies.{heading-there}
use Rattle.lookup.proofs.sound.SoundBase.last.Goals as goal

pub le16-requires : goal.le16-requires
le16-requires c = omega (arith, heading-there c.args.self.now.bytes.now c.args.self.now.sound)

pub returns : goal.returns
unfolding decode
returns c = c.le16.ensures
