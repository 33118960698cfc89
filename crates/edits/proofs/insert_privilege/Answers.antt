use Rattle.edits.proofs.BodyEdits.{privileges, insertion}
use Rattle.edits.proofs.EditedBytes.{edited}
use Rattle.std.proofs.Common.{refl}
use Rattle.edits.proofs.BodyEditRules.{place-fits, count-rises, put-needs, edit-rules}
use Rattle.edits.proofs.insert_privilege.Goals as goal

pub counts_of-c-requires : goal.counts_of-c-requires
counts_of-c-requires = λ c. search edit-rules

pub overflow_add-at : goal.overflow_add-at
overflow_add-at c = search (place-fits (privileges c.args.k), edit-rules)

pub overflow_add-n : goal.overflow_add-n
overflow_add-n c = search (count-rises (privileges c.args.k), edit-rules)

pub insert-requires : goal.insert-requires
insert-requires c = let q = c.requires in
    put-needs (privileges c.args.k) _ q.0 _ c.counts_of-c.ensures _ _ _ _ c.privileges_at.ensures
    c.privilege_count-n.ensures c.args.p c.with_privilege_count.ensures q.1 q.2

pub returns : goal.returns
returns c = let q = c.requires in
    edited (insertion (privileges c.args.k) _ q.0 _ c.counts_of-c.ensures _ _ _ c.args.p _ c.privileges_at.ensures
    c.privilege_count-n.ensures c.with_privilege_count.ensures q.1 q.2) refl c.insert.ensures
