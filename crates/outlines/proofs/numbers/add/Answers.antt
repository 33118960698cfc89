use Rattle.outlines.proofs.CoordinateTurns.{added_none, added_one}
use Rattle.outlines.proofs.numbers.add.Goals as goal

pub returns-then-v-table : goal.returns-then-v-table
returns-then-v-table c =
    let a = c.args in
    added_none a.table.now a.v a.next c.if-v-table.true

pub returns : goal.returns
returns c =
    let a = c.args in
    added_one a.table.now a.v a.next c.requires.0 c.if-v-table.false
