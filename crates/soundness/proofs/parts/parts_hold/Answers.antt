use Rattle.std.proofs.Common.{rules, arith, ap, refl, ◌∙◌, length}
use Rattle.model.specs.Base.{Base}
use Rattle.encoding.specs.Format.{counts_of}
use Rattle.encoding.proofs.FormatFacts.{decoded_lengths}
use Rattle.bodies.specs.Asked.{base_of}
use Rattle.bodies.proofs.Formatted.{formatted}
use Rattle.soundness.proofs.Decoded.{sound_asked}
use Rattle.soundness.proofs.parts.parts_hold.Goals as goal

pub bodies_sound-requires : goal.bodies_sound-requires
bodies_sound-requires c =
    let s = c.args.s.now in
    let f = formatted s c.requires (counts_of s) refl in
    let d = decoded_lengths s in (
      omega (arith, f.counts, d, ap (λ (b : Base). length b.authorizations) c.of.ensures),
      omega (arith, f.counts, d, ap (λ (b : Base). length b.rules) c.of.ensures),
    )

pub returns : goal.returns
returns c = c.bodies_sound.ensures ∙ sound_asked c.args.s.now c.requires (base_of c.of.result) c.of.ensures (search rules) (search rules)
