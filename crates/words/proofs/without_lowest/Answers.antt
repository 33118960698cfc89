use Rattle.words.proofs.LowestBit.{bit-lower}
use Rattle.words.proofs.without_lowest.Goals as goal

pub returns : goal.returns
returns c = λ k none e i. bit-lower k c.args.m none e i
