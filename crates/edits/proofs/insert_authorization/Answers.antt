use Rattle.std.proofs.Common.{refl}
use Rattle.edits.proofs.BodyEdits.{authorizations, insertion}
use Rattle.edits.proofs.EditedBytes.{edited}
use Rattle.edits.proofs.BodyEditRules.{count-rises, put-needs, edit-rules}
use Rattle.edits.proofs.insert_authorization.Goals as goal

pub counts_of-c-requires : goal.counts_of-c-requires
counts_of-c-requires = λ c. search edit-rules

pub overflow_add-authorizations : goal.overflow_add-authorizations
overflow_add-authorizations = λ c. search (count-rises authorizations, edit-rules)

pub insert-requires : goal.insert-requires
insert-requires c = let q = c.requires in
    put-needs authorizations _ q.0 _ c.counts_of-c.ensures _ _ _ _ c.authorizations_at.ensures refl c.args.a refl q.1 q.2

pub returns : goal.returns
returns c = let q = c.requires in
    edited (insertion authorizations _ q.0 _ c.counts_of-c.ensures _ _ _ c.args.a _ c.authorizations_at.ensures refl refl q.1 q.2)
    refl c.insert.ensures
