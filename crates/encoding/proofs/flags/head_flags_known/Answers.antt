use Rattle.foundation.specs.BitMasks.{high-clear}
use Rattle.encoding.proofs.flags.head_flags_known.Goals as goal

pub returns : goal.returns
returns c = high-clear c.args.f c.ranges.f.fits
