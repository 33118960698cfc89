-- What is left to write gets shorter.
use Rattle.std.proofs.Common.{length}
use Rattle.channel.proofs.write_whole.Given as goal

abbrev pub decreases-loop-rest : goal.decreases-loop-rest
decreases-loop-rest g l = length l.rest
