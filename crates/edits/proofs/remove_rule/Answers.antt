use Rattle.std.proofs.Common.{refl}
use Rattle.edits.proofs.BodyEdits.{rules, removal}
use Rattle.edits.proofs.EditedBytes.{edited_out}
use Rattle.edits.proofs.BodyEditRules.{count-falls, out_needs, edit-rules}
use Rattle.edits.proofs.remove_rule.Goals as goal

pub counts_of-c-requires : goal.counts_of-c-requires
counts_of-c-requires = λ c. search edit-rules

pub overflow_sub-rules : goal.overflow_sub-rules
overflow_sub-rules = λ c. search (count-falls rules, edit-rules)

pub remove-requires : goal.remove-requires
remove-requires c = let q = c.requires in
    out_needs rules _ q.0 _ c.counts_of-c.ensures _ _ _ _ c.rules_at.ensures refl refl q.1

pub returns : goal.returns
returns c = let q = c.requires in
    edited_out (removal rules _ q.0 _ c.counts_of-c.ensures _ _ _ _ c.rules_at.ensures refl refl q.1) c.remove.ensures
