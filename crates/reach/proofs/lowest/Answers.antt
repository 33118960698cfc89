use native.Mathlib.Omega.{arith}
use borrow.Author.Numbers.{trailing_lt}
use Prim.Native.Nat.{◌<◌}
use lib.Count.{count_trailing_zeros}
use Rattle.words.proofs.FieldLaws.{lowest_set}
use Rattle.reach.proofs.lowest.Goals as goal

pub returns : goal.returns
returns c =
    let l : count_trailing_zeros 16 c.args.x < 16 = trailing_lt 16 c.args.x c.requires (omega arith) in
    (l, lowest_set 16 c.args.x l)
