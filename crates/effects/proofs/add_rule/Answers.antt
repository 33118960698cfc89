use native.Mathlib.Omega.{arith}
use Rattle.edits.proofs.EditedBytes.{written-length}
use Rattle.effects.proofs.AllowedEffects.{rule_addition, new-fits, room, put_last, operator_in}
use Rattle.effects.proofs.add_rule.Goals as goal

pub counts_of-c-requires : goal.counts_of-c-requires
counts_of-c-requires c =
    let d = c in
    omega (arith, written-length d.args.s.now (rule_addition _ _ d.requires).written)

pub invariant_of-next_label : goal.invariant_of-next_label
invariant_of-next_label c = record { written = (rule_addition _ _ c.requires).written }

pub next_label-label-requires : goal.next_label-label-requires
next_label-label-requires c = (rule_addition _ _ c.requires).unused

pub stamp-requires : goal.stamp-requires
stamp-requires c = (rule_addition _ _ c.requires).written

pub new_rule-requires : goal.new_rule-requires
new_rule-requires c =
    let l = c in
    let d = l in (
      new-fits (rule_addition _ _ d.requires) l.next_label-label.ensures,
      operator_in _ _ d.requires,
    )

pub insert_rule-requires : goal.insert_rule-requires
insert_rule-requires c =
    let p = c in
    let l = p in
    let n = l in
    room (rule_addition _ _ n.requires) l.next_label-label.ensures p.stamp.ensures
    n.counts_of-c.ensures

pub returns : goal.returns
returns c =
    let r = c in
    let p = r in
    let l = p in
    let n = l in
    put_last (rule_addition _ _ n.requires) l.next_label-label.ensures
    p.stamp.ensures n.counts_of-c.ensures r.new_rule.ensures r.insert_rule.ensures
