use Rattle.std.proofs.Common.{sym, ◌∙◌, arith}
use Rattle.relevance.proofs.KeptNumbers.{small}
use Rattle.relevance.proofs.choice.is_needed.Goals as goal

pub returns-then-s-o : goal.returns-then-s-o
returns-then-s-o c = rw c.if-s-o.true

pub bounds-need-pair_index : goal.bounds-need-pair_index
bounds-need-pair_index c =
    let e = c in
    omega (arith, c.pair_index.ensures, e.requires.1.inside e.if-s-o.false)

pub returns : goal.returns
returns c =
    let i = c.pair_index.ensures in
    rw i at c.is_needed_both.ensures ∙ sym (rw c.if-s-o.false)

pub pair_index-requires : goal.pair_index-requires
pair_index-requires = λ c. omega (arith, small c.requires.1)

pub offset_bounds-need-pair_index : goal.offset_bounds-need-pair_index
offset_bounds-need-pair_index = λ c. omega (arith, c.pair_index.ensures, small c.requires.1)
