use Rattle.std.proofs.Common.{◌≡◌, ap, ◌∙◌, List, ℕ, ◌-◌, length, arith}
use Rattle.fields.specs.Field.{splice}
use Rattle.fields.proofs.ByteLaws.{part-put}
use Rattle.columns.proofs.RowFilling.{right}
use Rattle.columns.proofs.put_right.Goals as goal

pub returns : goal.returns
returns c =
    let w = length c.args.column.now in
    let text = c.args.text.now in
    let n = w - length text in
    part-put n (length c.fill.new.self) c.fill.new.self c.copy_from_slice.ensures.after
    (omega (arith, c.requires, c.fill.ensures.len))
    ∙ ap (splice n text) (c.fill.ensures.after (λ y e. e))
    ∙ right w text c.requires
