use Rattle.foundation.specs.BytesFacts.{set_word}
use Rattle.outlines.proofs.left.put_word.Goals as goal

pub returns : goal.returns
returns c =
    let a = c.args in
    λ w. set_word a.table.now a.at a.v c.requires w
