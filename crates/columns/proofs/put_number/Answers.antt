use borrow.Author.Rules.{rules}
use native.Mathlib.Omega.{arith}
use mathlib.Core.Path.{◌≡◌, ap, ◌∙◌}
use Prim.Native.Nat.{◌-◌}
use lib.ListN.{length, take, drop}
use Rattle.model.specs.Text.{decimal}
use Rattle.model.specs.Report.{aligned}
use Rattle.printing.proofs.Digits.{lent-number}
use Rattle.columns.proofs.put_number.Goals as goal

pub slice_bounds-put_right-end : goal.slice_bounds-put_right-end
slice_bounds-put_right-end c = omega (arith, c.decimal_text-i.ensures.1)

pub put_right-requires : goal.put_right-requires
put_right-requires c =
    let whole : (let d = c in take (10 - d.decimal_text-i.result) (drop d.decimal_text-i.result d.decimal_text-i.new.text) ≡ decimal d.args.n) =
    let d = c.decimal_text-i in
    lent-number d.result _ d.new.text d.ensures.1 d.ensures.2 in
    rw (whole) (search rules)

pub returns : goal.returns
returns c =
    let whole : (let d = c in take (10 - d.decimal_text-i.result) (drop d.decimal_text-i.result d.decimal_text-i.new.text) ≡ decimal d.args.n) =
    let d = c.decimal_text-i in
    lent-number d.result _ d.new.text d.ensures.1 d.ensures.2 in
    let p = c in
    let a = p.args in
    p.put_right.ensures ∙ ap (aligned (length a.column.now)) (whole)
