use mathlib.Core.Path.{ap, ◌∙◌}
use native.Mathlib.Omega.{arith}
use Rattle.model.specs.Base.{Base}
use Rattle.model.specs.Encoding.{encode, decode}
use Rattle.edits.specs.Edits.{with_stamp}
use Rattle.effects.proofs.AllowedEffects.{stamped}
use Rattle.effects.proofs.stamp.Goals as goal

pub set_last-requires : goal.set_last-requires
set_last-requires c =
    let d = c in
    let p = c.set_clock in
    (stamped d.args.s.now d.args.clock (decode d.args.s.now).last d.requires (omega arith)
    d.requires.fits.last _ p.ensures).written

pub returns : goal.returns
returns c =
    let p = c in
    let e = p.set_clock in
    let d = p in
    let s = d.args.s.now in
    let h = stamped s d.args.clock (decode s).last d.requires (omega arith) d.requires.fits.last _
    e.ensures in
    p.set_last.ensures ∙ ap (λ (b : Base). encode (with_stamp b.clock d.args.last b)) h.base
