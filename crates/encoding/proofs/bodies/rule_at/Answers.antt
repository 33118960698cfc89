use mathlib.Core.Path.{◌∙◌, ap}
use Prim.Native.Nat.{◌+◌}
use lib.ListN.{get_or}
use Rattle.model.specs.Requests.{operator_of}
use Rattle.model.specs.Encoding.{bit, option_of}
use Rattle.foundation.specs.BytesFacts.{le_at}
use Rattle.foundation.specs.BitMasks.{mask_test}
use Rattle.encoding.proofs.RecordFields.{byte_at, interval_at}
use Rattle.encoding.proofs.bodies.rule_at.Goals as goal

pub returns : goal.returns
returns c =
    let c₁ = c in
    let c₂ = c₁ in
    let a = c₂.args in
    let s = a.s.now in
    let f = get_or s (a.at + 17) 0 in
    λ k. record {
      label = c₂.le16.ensures k;
      author = (c₂.le16-2.ensures ∙ le_at 2 s a.at 2) k;
      left = record {
        subject = (c₂.le16-3.ensures ∙ le_at 2 s a.at 4) k;
        mode = byte_at s a.at 14 k;
        object = (c₁.le16-4.ensures ∙ le_at 2 s a.at 6) k;
        negative = (mask_test 0 f ∙ ap (bit 0) (byte_at s a.at 17)) k;
      };
      operator = (c₁.from.ensures ∙ ap operator_of (byte_at s a.at 16)) k;
      right = record {
        subject = (c₁.le16-5.ensures ∙ le_at 2 s a.at 8) k;
        mode = byte_at s a.at 15 k;
        object = (c.le16-6.ensures ∙ le_at 2 s a.at 10) k;
        negative = (mask_test 1 f ∙ ap (bit 1) (byte_at s a.at 17)) k;
      };
      grantor = (c.le16-7.ensures ∙ le_at 2 s a.at 12) k;
      option = (c.option_of.ensures ∙ ap option_of (byte_at s a.at 17)) k;
      interval = (c.interval_at.ensures ∙ interval_at s a.at 20) k;
    }
