use Rattle.std.proofs.Common.{refl, ◌∙◌, ◌+◌}
use Rattle.fields.proofs.ByteLaws.{part-put}
use Rattle.fields.proofs.put16.Goals as goal

pub returns : goal.returns
returns c =
    part-put c.args.at (c.args.at + 2) c.args.s.now (c.copy_from_slice.ensures.after ∙ c.to_le_bytes.ensures) refl
