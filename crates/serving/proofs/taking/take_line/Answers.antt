use borrow.Author.Rules.{rules}
use native.Mathlib.Omega.{arith}
use borrow.Author.Tests.{eq-eqb, ne_eqb}
use Rattle.serving.proofs.Walk.{take-start, walk-byte, walk_ended, walk-whole}
use Rattle.serving.proofs.taking.take_line.Goals as goal

pub loop-i-init : goal.loop-i-init
loop-i-init c =
    let a = c.args in
    take-start a.len a.line.now a.piece.now a.from (search rules) (search rules)
    (search rules)

pub returns-then-c-eq10 : goal.returns-then-c-eq10
returns-then-c-eq10 c =
    let l = c.loop-i in
    (walk_ended l.invariant (search rules) (eq-eqb _ _ c.if-c-eq10.true), l.invariant.few, l.invariant.size)

pub loop-i-preserved : goal.loop-i-preserved
loop-i-preserved c =
    let l = c.loop-i in
    let k = c.keep_byte-n.ensures in
    let other = ne_eqb _ _ c.if-c-eq10.false in
    walk-byte l.invariant c.keep_byte-n.result c.keep_byte-n.new.line (search rules) other k.0 k.1
    k.2

pub returns : goal.returns
returns c =
    let l = c.loop-i in
    (walk-whole l.invariant (omega (arith, l.invariant.high)), l.invariant.few, l.invariant.size)
