use Rattle.edits.proofs.BodyEdits.{privileges, removal}
use Rattle.edits.proofs.EditedBytes.{edited_out}
use Rattle.edits.proofs.BodyEditRules.{before-fits, place-fits, count-falls, out_needs, edit-rules}
use Rattle.edits.proofs.remove_privilege.Goals as goal

pub counts_of-c-requires : goal.counts_of-c-requires
counts_of-c-requires = λ c. search edit-rules

pub overflow_mul-at : goal.overflow_mul-at
overflow_mul-at c = search (before-fits (privileges c.args.k), edit-rules)

pub overflow_add-at : goal.overflow_add-at
overflow_add-at c = search (place-fits (privileges c.args.k), edit-rules)

pub overflow_sub-n : goal.overflow_sub-n
overflow_sub-n c = search (count-falls (privileges c.args.k), edit-rules)

pub remove-requires : goal.remove-requires
remove-requires c = let q = c.requires in
    out_needs (privileges c.args.k) _ q.0 _ c.counts_of-c.ensures _ _ _ _ c.privileges_at.ensures
    c.privilege_count-n.ensures c.with_privilege_count.ensures q.1

pub returns : goal.returns
returns c = let q = c.requires in
    edited_out (removal (privileges c.args.k) _ q.0 _ c.counts_of-c.ensures _ _ _ _ c.privileges_at.ensures
    c.privilege_count-n.ensures c.with_privilege_count.ensures q.1) c.remove.ensures
