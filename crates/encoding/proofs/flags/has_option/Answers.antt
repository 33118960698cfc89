use Rattle.foundation.specs.BitMasks.{mask_test}
use Rattle.encoding.proofs.flags.has_option.Goals as goal

pub returns : goal.returns
returns c = mask_test 1 c.args.f
