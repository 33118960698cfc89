use Rattle.std.proofs.Common.{ap, ◌∙◌, arith}
use Rattle.edits.specs.Edits.{privileges_at, privilege_count}
use Rattle.edits.proofs.EditedBytes.{written-length}
use Rattle.edits.proofs.BodiesRead.{privileges-body, lent_starts, lent_room, lent_is}
use Rattle.edits.proofs.reading.WrittenBase.privileges.Goals as goal

pub counts_of-c-requires : goal.counts_of-c-requires
counts_of-c-requires c = omega (arith, written-length _ c.args.self.now.written)

pub slice_bounds-new-count : goal.slice_bounds-new-count
slice_bounds-new-count c =
    let b = c.args.self.now in
    lent_starts (privileges-body c.args.k b.bytes.now b.written) _ (c.privileges_at-at.ensures ∙ ap (privileges_at c.args.k) c.counts_of-c.ensures)

pub slice_bounds-new-start : goal.slice_bounds-new-start
slice_bounds-new-start c =
    let b = c.args.self.now in
    lent_starts (privileges-body c.args.k b.bytes.now b.written) _ (c.privileges_at-at.ensures ∙ ap (privileges_at c.args.k) c.counts_of-c.ensures)

pub new-requires : goal.new-requires
new-requires c =
    let b = c.args.self.now in
    lent_room (privileges-body c.args.k b.bytes.now b.written) _
    (c.privileges_at-at.ensures ∙ ap (privileges_at c.args.k) c.counts_of-c.ensures) _
    (c.privilege_count.ensures ∙ ap (privilege_count c.args.k) c.counts_of-c.ensures)

pub returns : goal.returns
returns c =
    let b = c.args.self.now in
    c.new.ensures
    ∙ lent_is (privileges-body c.args.k b.bytes.now b.written) _
    (c.privileges_at-at.ensures ∙ ap (privileges_at c.args.k) c.counts_of-c.ensures) _
    (c.privilege_count.ensures ∙ ap (privilege_count c.args.k) c.counts_of-c.ensures)
