use Rattle.std.proofs.Common.{ap, ◌∙◌, arith}
use Rattle.encoding.specs.declared.Counts.{Counts}
use Rattle.encoding.specs.Format.{rules_at}
use Rattle.edits.proofs.EditedBytes.{written-length}
use Rattle.edits.proofs.BodiesRead.{rules_body, lent_starts, lent_room, lent_is}
use Rattle.edits.proofs.reading.WrittenBase.rules.Goals as goal

pub counts_of-c-requires : goal.counts_of-c-requires
counts_of-c-requires c = omega (arith, written-length _ c.args.self.now.written)

pub slice_bounds-new-count : goal.slice_bounds-new-count
slice_bounds-new-count c =
    let b = c.args.self.now in
    lent_starts (rules_body b.bytes.now b.written) _ (c.rules_at-at.ensures ∙ ap rules_at c.counts_of-c.ensures)

pub slice_bounds-new-start : goal.slice_bounds-new-start
slice_bounds-new-start c =
    let b = c.args.self.now in
    lent_starts (rules_body b.bytes.now b.written) _ (c.rules_at-at.ensures ∙ ap rules_at c.counts_of-c.ensures)

pub new-requires : goal.new-requires
new-requires c =
    let b = c.args.self.now in
    lent_room (rules_body b.bytes.now b.written) _ (c.rules_at-at.ensures ∙ ap rules_at c.counts_of-c.ensures) _
    (ap (λ (n : Counts). n.rules) c.counts_of-c.ensures)

pub returns : goal.returns
returns c =
    let b = c.args.self.now in
    c.new.ensures
    ∙ lent_is (rules_body b.bytes.now b.written) _ (c.rules_at-at.ensures ∙ ap rules_at c.counts_of-c.ensures) _
    (ap (λ (n : Counts). n.rules) c.counts_of-c.ensures)
