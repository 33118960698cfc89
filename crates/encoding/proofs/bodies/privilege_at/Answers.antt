use mathlib.Core.Path.{◌∙◌}
use Rattle.foundation.specs.BytesFacts.{le_at}
use Rattle.encoding.proofs.bodies.privilege_at.Goals as goal

pub returns : goal.returns
returns c =
    let a = c.args in
    λ k. record {
      object = c.le16.ensures k;
      subject = (c.le16-2.ensures ∙ le_at 2 a.s.now a.at 2) k;
    }
