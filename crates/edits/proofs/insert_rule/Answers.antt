use Rattle.std.proofs.Common.{refl}
use Rattle.edits.proofs.BodyEdits.{rules, insertion}
use Rattle.edits.proofs.EditedBytes.{edited}
use Rattle.edits.proofs.BodyEditRules.{count-rises, put-needs, edit-rules}
use Rattle.edits.proofs.insert_rule.Goals as goal

pub counts_of-c-requires : goal.counts_of-c-requires
counts_of-c-requires = λ c. search edit-rules

pub overflow_add-rules : goal.overflow_add-rules
overflow_add-rules = λ c. search (count-rises rules, edit-rules)

pub insert-requires : goal.insert-requires
insert-requires c = let q = c.requires in
    put-needs rules _ q.0 _ c.counts_of-c.ensures _ _ _ _ c.rules_at.ensures refl c.args.r refl q.1 q.2

pub returns : goal.returns
returns c = let q = c.requires in
    edited (insertion rules _ q.0 _ c.counts_of-c.ensures _ _ _ c.args.r _ c.rules_at.ensures refl refl q.1 q.2)
    refl c.insert.ensures
