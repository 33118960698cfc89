use Rattle.std.proofs.Common.{arith, eq-eqb, ne_eqb, rules}
use Rattle.vectors.proofs.LineWalks.{walk_start, walk-byte, walk_ended, walk-whole}
use Rattle.vectors.proofs.lines.line_at.Goals as goal

pub loop-i-init : goal.loop-i-init
loop-i-init c = walk_start c.args.text.now c.args.from (search rules)

pub returns-then-text-i-eq10 : goal.returns-then-text-i-eq10
returns-then-text-i-eq10 c =
    let l = c.loop-i in
    walk_ended l.invariant (search rules) (eq-eqb _ _ c.if-text-i-eq10.true)

pub loop-i-preserved : goal.loop-i-preserved
loop-i-preserved c =
    let l = c.loop-i in
    walk-byte l.invariant (search rules) (ne_eqb _ _ c.if-text-i-eq10.false)

pub returns : goal.returns
returns c =
    let l = c.loop-i in
    walk-whole l.invariant (omega (arith, l.invariant.high))
