use Rattle.foundation.specs.BytesFacts.{le_at}
use Rattle.encoding.proofs.RecordFields.{byte_at}
use Rattle.encoding.proofs.bodies.authorization_clean.Goals as goal

pub returns : goal.returns
returns c =
    let a = c.args in
    let s = a.s.now in
    rw (c.head_flags_known.ensures, c.le16.ensures, byte_at s a.at 9, le_at 2 s a.at 10)
