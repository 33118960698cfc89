use Rattle.std.proofs.Common.{arith, sym, ◌∙◌}
use mathlib.Core.Bool.{◌&&◌}
use Rattle.model.specs.Encoding.{decode}
use Rattle.model.specs.Soundness.{sound}
use Rattle.encoding.proofs.FormatFacts.{format_is}
use Rattle.soundness.proofs.is_sound.Goals as goal

pub returns-then-format_fits : goal.returns-then-format_fits
returns-then-format_fits c =
    let s = c.args.s.now in
    (λ k. (sym c.if-format_fits.true ∙ c.format_fits.ensures) k && c.parts_hold.ensures k)
    ∙ sym (format_is s (λ i. omega (arith, c.type_inv.s i)))

pub returns-else-format_fits : goal.returns-else-format_fits
returns-else-format_fits c =
    let s = c.args.s.now in
    c.if-format_fits.false
    ∙ (λ k. (sym c.if-format_fits.false ∙ c.format_fits.ensures) k && sound (decode s))
    ∙ sym (format_is s (λ i. omega (arith, c.type_inv.s i)))
