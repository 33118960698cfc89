use mathlib.Core.Path.{◌≡◌, sym, ◌∙◌}
use mathlib.Core.Bool.{false}
use borrow.Author.Tests.{eq-eqb, ne_eqb}
use Rattle.model.specs.Encoding.{bit}
use Rattle.foundation.specs.BitMasks.{mask_test}
use Rattle.encoding.proofs.flags.option_of.Goals as goal

pub returns-then-f-eq8 : goal.returns-then-f-eq8
returns-then-f-eq8 c = rw (sym (mask_test 3 c.args.f) ∙ eq-eqb _ _ c.if-f-eq8.true)

pub returns-then-f-eq4 : goal.returns-then-f-eq4
returns-then-f-eq4 c =
    let clear : bit 3 c.args.f ≡ false = sym (mask_test 3 c.args.f) ∙ ne_eqb _ _ c.if-f-eq8.false in
    rw (clear, sym (mask_test 2 c.args.f) ∙ eq-eqb _ _ c.if-f-eq4.true)

pub returns : goal.returns
returns c =
    let clear : bit 3 c.args.f ≡ false = sym (mask_test 3 c.args.f) ∙ ne_eqb _ _ c.if-f-eq8.false in
    rw (clear, sym (mask_test 2 c.args.f) ∙ ne_eqb _ _ c.if-f-eq4.false)
