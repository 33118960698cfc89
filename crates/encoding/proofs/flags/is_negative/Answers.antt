use Rattle.foundation.specs.BitMasks.{mask_test}
use Rattle.encoding.proofs.flags.is_negative.Goals as goal

pub returns : goal.returns
returns c = mask_test 0 c.args.f
