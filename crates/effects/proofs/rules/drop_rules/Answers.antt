use borrow.Author.Rules.{rules}
use Rattle.std.proofs.Common.{sym, ap, ◌∙◌, not, length, List}
use Rattle.model.specs.declared.Rule.{Rule}
use Rattle.model.specs.Encoding.{decode}
use Rattle.effects.proofs.Dropping.{drop-starts, drop_ends, turn_reads, turn_keeps, turn-drops}
use Rattle.effects.proofs.rules.drop_rules.Invariants.{remains}
use Rattle.effects.proofs.rules.drop_rules.Goals as goal

pub loop-i-init : goal.loop-i-init
loop-i-init c =
    let s = c.args.s.now in
    drop-starts _ (decode s) s _ (sym c.requires.encoded)
    (c.len-n.ensures ∙ ap (λ (rs : List Rule). length rs) c.rules.ensures)

pub invariant_of-rules-in-loop-i : goal.invariant_of-rules-in-loop-i
invariant_of-rules-in-loop-i c =
    let a = c.args in
    record {
      written = (turn_reads (remains a.refers a.administers a.q) (decode a.s.now) c.requires.fits _ c.loop-i.i
          (search rules) c.loop-i.invariant).0;
    }

pub get-requires : goal.get-requires
get-requires c =
    let a = c.args in
    rw c.rules-rules.ensures (turn_reads (remains a.refers a.administers a.q) (decode a.s.now) c.requires.fits _
    c.loop-i.i (search rules) c.loop-i.invariant).1

pub remove_rule-requires : goal.remove_rule-requires
remove_rule-requires c =
    let a = c.args in
    turn_reads (remains a.refers a.administers a.q) (decode a.s.now) c.requires.fits _ c.loop-i.i (search rules)
    c.loop-i.invariant

pub loop-i-preserved-then-is_dropped : goal.loop-i-preserved-then-is_dropped
loop-i-preserved-then-is_dropped c =
    let a = c.args in
    turn-drops (remains a.refers a.administers a.q) (decode a.s.now) c.requires.fits _ c.loop-i.i (search rules)
    c.loop-i.invariant c.get.result (rw c.rules-rules.ensures at c.get.ensures)
    (ap not (sym c.is_dropped.ensures ∙ c.if-is_dropped.true)) _ c.remove_rule.ensures

pub loop-i-preserved : goal.loop-i-preserved
loop-i-preserved c =
    let a = c.args in
    turn_keeps (remains a.refers a.administers a.q) (decode a.s.now) c.requires.fits _ c.loop-i.i (search rules)
    c.loop-i.invariant c.get.result (rw c.rules-rules.ensures at c.get.ensures)
    (ap not (sym c.is_dropped.ensures ∙ c.if-is_dropped.false))

pub returns : goal.returns
returns c =
    let a = c.args in
    drop_ends (remains a.refers a.administers a.q) (decode a.s.now) _ c.loop-i.i (search rules) c.loop-i.invariant
