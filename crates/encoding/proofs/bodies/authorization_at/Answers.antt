use mathlib.Core.Path.{◌∙◌, ap}
use Rattle.model.specs.Encoding.{is_negative, has_option}
use Rattle.foundation.specs.BytesFacts.{le_at}
use Rattle.encoding.proofs.RecordFields.{byte_at, interval_at}
use Rattle.encoding.proofs.bodies.authorization_at.Goals as goal

pub returns : goal.returns
returns c =
    let c₁ = c in
    let a = c₁.args in
    let s = a.s.now in
    λ k. record {
      head = record {
        label = c₁.le16.ensures k;
        grantor = (c₁.le16-2.ensures ∙ le_at 2 s a.at 2) k;
        subject = (c₁.le16-3.ensures ∙ le_at 2 s a.at 4) k;
        object = (c₁.le16-4.ensures ∙ le_at 2 s a.at 6) k;
        mode = byte_at s a.at 8 k;
        negative = (c.is_negative.ensures ∙ ap is_negative (byte_at s a.at 9)) k;
        option = (c.has_option.ensures ∙ ap has_option (byte_at s a.at 9)) k;
        granted = (c.le32.ensures ∙ le_at 4 s a.at 12) k;
      };
      interval = (c.interval_at.ensures ∙ interval_at s a.at 16) k;
    }
