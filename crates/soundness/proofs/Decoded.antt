-- Soundness of the base that bytes of the format hold, asked of the bodies as they are lent. Assumes nothing.
use mathlib.Core.Path.{◌≡◌, sym, ap, ◌∙◌}
use mathlib.Core.Bool.{true, ◌&&◌}
use mathlib.Core.List.{List}
use Prim.Native.Nat.{ℕ, ◌≤◌}
use Rattle.foundation.specs.Tests.{le-true}
use Rattle.model.specs.Base.{Base}
use Rattle.model.specs.Encoding.{decode}
use Rattle.model.specs.Stratification.{stratified}
use Rattle.model.specs.Step.{counts_hold}
use Rattle.model.specs.Soundness.{sound, all_supported}
use Rattle.encoding.specs.Format.{format_fits}
use Rattle.encoding.proofs.FormatFacts.{decoded-counts}
use Rattle.bodies.specs.BodyTests.{objects_part, privileges_part, authorizations_part, rules_part}
use Rattle.soundness.specs.BodiesAsked.{parts_hold}
use Rattle.soundness.proofs.SoundParts.{sound-parts}
use Rattle.bodies.proofs.Formatted.{format_counts}

-- where the counts and the clock and last label fit, the parts are all
parts_left : (b : Base) → counts_hold b ≡ true → b.clock ≤ 4294967295 → b.last ≤ 65535 →
    sound b ≡ parts_hold b
parts_left b f h l =
    sound-parts b
    ∙ (λ k. f k && le-true b.clock 4294967295 h k && le-true b.last 65535 l k
    && objects_part b.objects
    && privileges_part b.objects b.administrators
    && privileges_part b.objects b.referrers
    && authorizations_part b.objects b.rules b.clock b.last b.authorizations
    && rules_part b.objects b.administrators b.referrers b.last b.rules
    && all_supported b
    && stratified b.rules)

-- so the base of the bytes is sound if they are
pub sound_asked : (s : List ℕ) → format_fits s ≡ true → (b : Base) → b ≡ decode s → b.clock ≤ 4294967295 →
    b.last ≤ 65535 → parts_hold b ≡ sound (decode s)
sound_asked s e b q h l =
    sym (parts_left b (ap counts_hold q ∙ decoded-counts s ∙ format_counts s e) h l) ∙ ap sound q
