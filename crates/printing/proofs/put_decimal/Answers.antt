use borrow.Author.Rules.{rules}
use native.Mathlib.Omega.{arith}
use mathlib.Core.Path.{◌≡◌}
use Prim.Native.Nat.{◌-◌}
use lib.ListN.{take, drop}
use Rattle.model.specs.Text.{decimal}
use Rattle.printing.proofs.Digits.{lent-number}
use Rattle.printing.proofs.Placed.{printed_as}
use Rattle.printing.proofs.put_decimal.Goals as goal

pub slice_bounds-put_bytes-end : goal.slice_bounds-put_bytes-end
slice_bounds-put_bytes-end c = omega (arith, c.decimal_text-i.ensures.1)

pub put_bytes-requires : goal.put_bytes-requires
put_bytes-requires c =
    let whole : (let d = c in take (10 - d.decimal_text-i.result) (drop d.decimal_text-i.result d.decimal_text-i.new.text) ≡ decimal d.args.n) =
    let d = c.decimal_text-i in
    lent-number d.result _ d.new.text d.ensures.1 d.ensures.2 in
    rw (whole) (search rules)

pub returns : goal.returns
returns c =
    let whole : (let d = c in take (10 - d.decimal_text-i.result) (drop d.decimal_text-i.result d.decimal_text-i.new.text) ≡ decimal d.args.n) =
    let d = c.decimal_text-i in
    lent-number d.result _ d.new.text d.ensures.1 d.ensures.2 in
    printed_as (whole) c.put_bytes.ensures
