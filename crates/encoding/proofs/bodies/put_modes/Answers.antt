use Rattle.std.proofs.Common.{refl, ◌+◌}
use Rattle.fields.proofs.ByteLaws.{part-put}
use Rattle.encoding.proofs.bodies.put_modes.Goals as goal

pub returns : goal.returns
returns c = part-put c.args.at (c.args.at + 6) c.args.s.now
    (rw (c.from.ensures, c.rule_flags-flags.ensures) at c.copy_from_slice.ensures.after) refl
