use lib.Bits.{and_le_l}
use Rattle.words.proofs.CutBit.{cut-less}
use Rattle.reach.proofs.RightPairs.{shifted, cut_in, cut_other}
use Rattle.reach.proofs.without_bit.Goals as goal

pub overflow_sub-result : goal.overflow_sub-result
overflow_sub-result c = and_le_l c.args.x _

pub returns : goal.returns
returns c =
    let a = c.args in
    let e = shifted a.k c.requires.0 in
    rw e (cut-less a.x a.k c.requires.1, cut_in a.x a.k, cut_other a.x a.k)
